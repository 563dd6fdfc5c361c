use Rattle.std.proofs.Common.{◌≡◌, [], ◌∷◌, ◌++◌, List, Box, Global, Some, Option, rules, sym, ap, ◌∙◌, map}
use Rattle.std.proofs.lemmas.List.Elements.{All-rest}
use Rattle.std.specs.Arc.{arc_value}
use Rattle.monitor.specs.Shown.{Shown}
use Rattle.aqs_c.specs.Opening.{idle}
use Rattle.aqs_c.specs.Seated.{Seated}
use Rattle.aqs_c.specs.declared.seat.Seat.{Seat}
use Rattle.aqs_c.proofs.Placing.{placed_more}
use Rattle.aqs_c.proofs.opening.open_seats.Goals as goal

abbrev shown : Box Seat Global → Option Seated
shown seat = Some seat.value

pub loop-right-preserved : goal.loop-right-preserved
loop-right-preserved c =
    let left = c.next.new.self.rest.items in
    let here : c.push.new.self.items ≡ c.loop-right.seats.items ++ c.in_ok-seat.seat ∷ [] = search rules in
    let first : c.loop-right.right-iterator.rest.items ≡ c.in-Some.right ∷ left = search rules in
    let same : Some c.in_ok-seat.seat.value ≡ idle c.in-Some.right = search rules in (
      All-rest (λ (p : Shown). p.lock ≡ arc_value c.args.shared.now) c.in-Some.right left
          c.loop-right.right-iterator.rest.items first c.loop-right.invariant.0,
      ap (λ (l : List (Box Seat Global)). map shown l ++ map idle left) here
          ∙ placed_more shown idle c.loop-right.seats.items c.in_ok-seat.seat c.in-Some.right left
          (map idle c.args.rights.items)
          (ap (λ (l : List Shown). map shown c.loop-right.seats.items ++ map idle l) (sym first)
          ∙ c.loop-right.invariant.1) same,
    )
