use Rattle.std.proofs.Common.{◌≡◌, ◌++◌, [], IfOk, IfSome, List, append-nil, reverse, sym}
use Rattle.driver.specs.Below.{CanFold, Entry, folded}
use Rattle.driver.proofs.Shown.{goes_on}
use Rattle.driver.proofs.explained.explained_at.Goals as goal

pub state_before-requires : goal.state_before-requires
state_before-requires c = record { range = c.requires.range; can = c.requires.can; few = c.requires.few }

pub explained_on-requires : goal.explained_on-requires
explained_on-requires c =
    let b = c.args.base in
    let before = c.args.before.now in
    let state : IfOk c.state_before.result (λ s. IfSome s (λ after. after ≡ folded b (reverse before))) =
    c.state_before.ensures.state in
    let on : IfOk c.state_before.result (λ s. IfSome s (λ after. (h : List Entry) →
    CanFold b (h ++ reverse before) → CanFold after h)) = c.state_before.ensures.goes_on in
    goes_on b c.in-Ok-Some.state before before [] c.args.next c.requires (sym (append-nil before))
    (rw (c.in-Ok-Some.is, c.in-Ok-Some.field-0-is) at state) (rw (c.in-Ok-Some.is, c.in-Ok-Some.field-0-is) at on)
