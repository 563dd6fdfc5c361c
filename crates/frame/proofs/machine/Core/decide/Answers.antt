use Rattle.std.proofs.Common.{◌≡◌, refl, subst}
use Rattle.deciding.specs.ObjectState.{IsHistory}
use Rattle.frame.specs.Core.{CoreView, start_of}
use Rattle.frame.proofs.Deciding.{made_next}
use Rattle.frame.proofs.Stepping.{history_of}
use Rattle.frame.proofs.machine.Core.decide.Goals as goal

pub returns-clause-next : goal.returns-clause-next
returns-clause-next g c =
    let v = c.args.self.now in
    let s = c.self.invariant in
    let P : CoreView → Type 0 = λ w. IsHistory (start_of w) w.entries in
    let past = subst P c.self.view_is (history_of s) in
    let header = subst (λ (w : CoreView). w.base.header ≡ w.header) c.self.view_is s.based in
    made_next v c.args.seat c.args.step c.entry_for.result c.requires
    (c.entry_for.ensures (start_of v) v.entries (record {
      start = refl;
      header = header;
      entries = refl;
      past = past;
    }))
