-- An entry that can be folded finds its places in the base.
use Rattle.std.proofs.Common.{◌≡◌, ℕ, zero, suc, ◌+◌, ◌<◌, ◌≤◌, ◌^◌, [], ◌∷◌, length, refl, ap, subst, ◌∙◌, arith, length-append}
use Rattle.std.proofs.lemmas.Bool.{cases_eq}
use Rattle.std.proofs.lemmas.List.{length-map}
use Rattle.history.specs.Prelude.{MOST_FOLDED, SeatBase, Entry, Base, based, folded, seat_of, sleepers_of, standing_after, IsGood, IsModest, IsInRange, line, next_base, seat_then, CanFold, sleepers, Start, asleep}
use Rattle.history.specs.declared.entry.Word.TheVariants as word
use Rattle.history.specs.inner.BasePlaces.{HasPlaces}
use Rattle.history.proofs.Entering.{KnownBy, known}
use Rattle.history.proofs.Folding.{seat_folded}
use Rattle.history.proofs.GoodBases.{good_waits}
use Rattle.history.proofs.GoodFolds.{fold_good, line_seated_on}
use Rattle.history.proofs.NextBases.{next_is, own_seat}
use Rattle.history.proofs.OneWait.{Waits, waits_from}
use Rattle.history.proofs.SmallBases.{few_exclusive, few_shared, few_unheld}
use Rattle.history.proofs.Times.{total_part}
use Rattle.history.proofs.WhoWaits.{few_wait, idle_leaves_a_place}

-- those asleep on one condition are some of all
part_asleep : (n : ℕ) (s : Start) (c : ℕ) → c < n → length (sleepers s [] c) ≤ length (asleep n s [])
part_asleep zero s c l = absurd (omega arith)
part_asleep (suc n) s c l =
    grind (arith, cases_eq n c, length-append (asleep n s []) (sleepers s [] n), part_asleep n s c)

module _ (b : Base) (e : Entry) (range : IsInRange b.header) (modest : IsModest b)
    (few : b.entries + 1 ≤ MOST_FOLDED) (can : CanFold b (e ∷ [])) where
  good : IsGood (folded b (e ∷ []))
  good = fold_good b (e ∷ []) range can (omega (arith, few)) modest

  first : Waits (based b) []
  first = good_waits b can.good

  seat_now : seat_of (folded b (e ∷ [])) e.seat ≡ seat_then b.header.object e (seat_of b e.seat)
  seat_now = seat_folded b (e ∷ []) e.seat can.seated.0 ∙ own_seat b e

  line_room : length (next_base b e).line ≤ b.header.seats
  line_room =
      let same = ap (λ (x : Base). length x.line) (next_is b e can) in
      let many = length-map (line (based b) (e ∷ [])) (standing_after b (e ∷ [])) in
      let wait = few_wait (based b) (e ∷ []) (waits_from (based b) (e ∷ []) first can.legal)
      (line_seated_on b can.good (e ∷ []) can.legal can.seated) in
      omega (arith, same, many, wait)

  sleepers_room : e.word ≡ word.Await → length (sleepers_of b e.at) < b.header.seats
  sleepers_room w =
      let k = subst (KnownBy (based b) [] e) w (known (based b) [] can.legal.0.0 e can.legal.0.1) in
      let place = idle_leaves_a_place (based b) [] e.seat first (line_seated_on b can.good [] tt tt)
      can.seated.0 k.0.idle in
      let part = part_asleep b.header.conditions (based b) e.at k.0.condition in
      let many = length-map (sleepers_of b e.at) (λ x. x.seat) in
      omega (arith, place, part, many)

  calls_room : (seat_of b e.seat).calls + 1 < 2 ^ 64
  calls_room =
      let part = total_part b.header.seats (λ i. (seat_of b i).calls) e.seat can.seated.0 in
      omega (arith, part, can.good.calls, few)

  pub fold_places : HasPlaces b e
  fold_places =
      record {
        seat = let n = can.good.seats in let l = can.seated.0 in omega (arith, n, l);
        line = line_room;
        sleepers = sleepers_room;
        entries = omega (arith, few);
        calls = calls_room;
        exclusive = let l = few_exclusive (folded b (e ∷ [])) b.header.object refl good.held e.seat in
            let same = ap (λ (x : SeatBase). x.exclusive) seat_now in
            omega (arith, l, same);
        shared = let l = few_shared (folded b (e ∷ [])) b.header.object refl good.held e.seat can.seated.0 in
            let same = ap (λ (x : SeatBase). x.shared) seat_now in
            omega (arith, l, same);
        unheld = let l = few_unheld (folded b (e ∷ [])) b.header.object good.counted in
            let same = ap (λ (x : Base). x.unheld) (next_is b e can) in
            omega (arith, l, same);
      }
