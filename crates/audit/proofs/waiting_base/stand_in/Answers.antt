use Rattle.std.proofs.Common.{◌≡◌, ◌∙◌, ◌≤◌, ℕ, false, List, ap, get_or, map, take, subst, arith}
use Rattle.std.proofs.lemmas.Simd.{map-map}
use Rattle.audit.specs.Below.{Arrival, LinePlace, X, place_of, seats_of, times}
use Rattle.history.specs.declared.entry.End.TheVariants as end
use Rattle.history.proofs.Times.{never_placed}
use Rattle.audit.proofs.BaseWaits.{not_before}
use Rattle.audit.proofs.waiting_base.stand_in.Goals as goal

abbrev seat_of : LinePlace → ℕ
seat_of p = p.who.seat

abbrev nobody : LinePlace
nobody =
    record {
      who = record { seat = 0; mode = X; n = 0; back = false };
      condition = 0;
      holds = 0;
      how = end.None;
    }

seats_are : (xs : List LinePlace) → seats_of (map (λ p. p.who) xs) ≡ map seat_of xs
seats_are xs = map-map (λ (a : Arrival). a.seat) (λ (p : LinePlace). p.who) xs

pub join-requires-clause-absent : goal.join-requires-clause-absent
join-requires-clause-absent c =
    let xs = c.args.standing.now in
    let n = c.loop-place.place in
    let i = (get_or xs n nobody).who.seat in
    let once = λ (j : ℕ). subst (λ (ys : List ℕ). times j ys ≤ 1) (seats_are xs) (c.requires.once j) in
    let none = not_before seat_of xs n nobody (omega arith) once in
    ap (place_of i) c.loop-place.invariant.line
    ∙ never_placed i (map (λ p. p.who) (take n xs)) (ap (times i) (seats_are (take n xs)) ∙ none)
