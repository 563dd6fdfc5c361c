use Rattle.std.proofs.Common.{◌≡◌, Option, Some, rules, sym, subst}
use Rattle.aqs_c.specs.Calls.{IsPassGoneOn, IsSeatGoneOn}
use Rattle.aqs_c.specs.Seated.{Seated}
use Rattle.aqs_c.proofs.aqs_go_on.Goals as goal

pub returns-in-Some : goal.returns-in-Some
returns-in-Some c =
    let left : c.of.result.held.value ≡ Some c.go_on.new.self = search rules in
    let lent : c.deref_mut.result.now ≡ c.in-Some.seat.value = search rules in
    subst (λ (v : Option Seated). IsPassGoneOn v c.args.woke c.go_on.result c.of.result.held.value)
    (sym c.in-Some.ensures.taken) (
      c.go_on.new.self,
      left,
      subst (λ (old : Seated). IsSeatGoneOn old c.args.woke c.go_on.result c.go_on.new.self) lent c.go_on.ensures,
    )
