use Rattle.std.proofs.Common.{◌≡◌, ◌+◌, ◌≤◌, false, true, length, ap, sym, ◌∙◌, subst}
use Rattle.frame.specs.Below.{balance, MOST_FOLDED, base_on}
use Rattle.frame.specs.Prelude.{CoreView, start_of, told_in}
use Rattle.frame.specs.inner.Snapshot.{IsKept}
use Rattle.frame.proofs.Trimming.{base_is, emptied, emptied_by, few_before, few_folded, goes_on, kept_by, seen_trimmed, stands_folded}
use Rattle.frame.proofs.machine.Core.trim.Goals as goal
use Rattle.frame.proofs.machine.Core.trim.Goals.{After-deref, After-begin_on}

-- what the base is written from
kept : (g : _) (c : After-deref g) → IsKept c.take_base-base.result c.self.inside.history.entries
    c.len-count.result c.balance-totals.result c.self.inside.queue c.self.inside.waiters c.deref.result.now
kept g c =
    let a = c.self.inside in
    let P : CoreView → Type 0 = λ v. c.balance-totals.result ≡ balance (start_of v) v.entries in
    subst
    (IsKept c.take_base-base.result a.history.entries c.len-count.result c.balance-totals.result a.queue a.waiters)
    (sym c.deref.ensures.value)
    (kept_by a.header a.history a.queue a.waiters a.seats.items c.take_base-base.result c.len-count.result
    c.balance-totals.result c.self.invariant c.take_base-base.ensures.base c.len-count.ensures.value
    (subst P (sym c.self.view_is) c.balance-totals.ensures.balance) c.balance-totals.ensures.shared)

-- the limit isn't passed
few : (g : _) (c : After-begin_on g) →
    (base_on c.self.inside.header c.self.inside.history).entries + length c.self.inside.history.entries
    ≤ MOST_FOLDED
few g c =
    few_folded c.self.inside.header c.self.inside.history c.self.invariant
    (λ over. (let q : true ≡ false = c.if-not-may_fold.ensures.1 over in cc))

-- the history then
now : (g : _) (c : After-begin_on g) (is : IsKept c.take_base-base.result c.self.inside.history.entries
    c.len-count.result c.balance-totals.result c.self.inside.queue c.self.inside.waiters c.deref.result.now) →
    c.begin_on.new.self ≡ emptied c.self.inside.header c.self.inside.history
now g c is =
    let a = c.self.inside in
    emptied_by a.header a.history c.take_base-base.new.self c.begin_on.new.self c.take_base-base.result
    c.write_base.new.base
    (base_is a.header a.history c.take_base-base.result c.self.invariant c.take_base-base.ensures.base)
    c.take_base-base.ensures.taken (c.write_base.ensures a.history.entries is) c.begin_on.ensures

pub may_fold-requires : goal.may_fold-requires
may_fold-requires g c = few_before c.self.inside.header c.self.inside.history c.self.invariant

pub write_base-requires : goal.write_base-requires
write_base-requires g c =
    (c.self.inside.history.entries, kept g (goal.at.write_base-requires g c).After-deref)

pub invariant_of-self : goal.invariant_of-self
invariant_of-self g c =
    let a = c.self.inside in
    let at = goal.at.invariant_of-self g c in
    stands_folded (g.H.Hooks.agrees a.hooks) (g.met.H.Hooks.alike a.hooks) a.header a.history
    c.begin_on.new.self a.queue a.waiters a.seats.items c.self.invariant
    (now g at.After-begin_on (kept g at.After-deref))
    (goes_on a.header a.history c.self.invariant (few g at.After-begin_on))

pub returns-clause-trimmed : goal.returns-clause-trimmed
returns-clause-trimmed g c =
    let a = c.self.inside in
    let at = goal.at.returns-clause-trimmed g c in
    seen_trimmed a.header a.history c.begin_on.new.self (told_in a.seats.items) c.args.self.now c.self.view_is
    (now g at.After-begin_on (kept g at.After-deref))

pub returns-clause-count : goal.returns-clause-count
returns-clause-count g c =
    c.len-count.ensures.value ∙ ap (λ (v : CoreView). length v.entries) c.self.view_is
