use Rattle.std.proofs.Common.{◌≡◌, ◌∷◌, Option, None, Some, refl, ap, ◌∙◌, sym, is_some}
use Rattle.drawing.specs.Below.{Arrival, is_placed, line, place_of}
use Rattle.drawing.proofs.LevelsKept.{others_stay}
use Rattle.drawing.proofs.stretches.can_change.Goals as goal

placed : (o : Option Arrival) → is_placed o ≡ is_some o
placed None = refl
placed (Some a) = refl

pub returns-then-is_signal : goal.returns-then-is_signal
returns-then-is_signal c = λ s h stand none.
    let e = c.args.entry in
    others_stay s e h c.args.seat c.if-entry-seat.false (λ t.
    placed (place_of c.args.seat (line s (e ∷ h)))
    ∙ ap is_some (sym (c.place_of.ensures s (e ∷ h) stand)) ∙ sym c.is_some.ensures ∙ none)

pub returns-else-is_signal : goal.returns-else-is_signal
returns-else-is_signal c = λ s h stand none.
    others_stay s c.args.entry h c.args.seat c.if-entry-seat.false
    (λ t. cc (sym t ∙ sym c.is_signal.ensures ∙ none))
