use Rattle.std.proofs.Common.{rules, ◌≡◌, ◌∙◌, ap, refl, sym}
use Rattle.workers.specs.Below.{Header, start_on, IsHistory, Legal, LockId}
use Rattle.workers.proofs.Closed.{closed_history}
use Rattle.workers.proofs.opened.Opened.close.Goals as goal

pub returns : goal.returns
returns g c =
    let lock = c.self.inside.monitor in
    let e = c.in-Ok.ensures.closes in
    let kept = c.in-Ok.closed.history in
    let header : c.self.inside.header ≡ lock.header = sym c.self.invariant.0 in
    let past : IsHistory (start_on lock.header kept) kept.entries =
    closed_history lock kept c.self.inside.header header c.self.invariant.1 e.based e.lawful in
    rw (← c.self.view_is) (record {
      header = header;
      range = c.self.invariant.1;
      cap = e.cap;
      lawful = e.lawful;
      within = rw c.into_list.ensures at e.within;
      based = e.based;
      judged = ap (λ t. Legal t) (c.of-totals.ensures.adds (start_on lock.header kept) kept.entries past
          (ap (λ (k : Header). k.object) (e.based.1 ∙ sym header)) e.balance);
      share = rw c.into_list.ensures at e.share;
      calls = e.calls;
    })
