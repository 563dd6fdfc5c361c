-- Each entry of a legal history of an object in range has a line of a history text: its amount and its
-- condition are small.
use Rattle.std.proofs.Common.{◌≡◌, ⊎_elim, ℕ, zero, suc, ℤ, ◌<◌, ◌≤◌, List, [], ◌∷◌, length, Some, ap, sym, subst, arith, FitsSigned, length-append}
use Rattle.std.specs.Int.{w32}
use Rattle.std.specs.List.{AllByRecursion}
use Rattle.std.proofs.lemmas.Int.{ints}
use Rattle.std.proofs.lemmas.Bool.Decides.{nat_tests}
use Rattle.history_text.specs.Below.{LAST_CONDITION, MOST_AMOUNT, MOST_CONDITIONS, Arrival, Entry, Word, Header, Object, Base, based, free, IsSpelt, IsWritten, IsBaseOf, IsGood, IsInRange, IsOpening, IsLegal, AreSeated, line, place_of, sleepers, CanFold, Start, at_least_none, at_most_one, asleep, most_exclusive}
use Rattle.history.specs.declared.entry.Word.TheVariants as word
use Rattle.history.proofs.Asking.{asked_few, AsksFew, line_few_on}
use Rattle.history.proofs.Entering.{KnownBy, known}
use Rattle.history.proofs.GoodBases.{good_waits}
use Rattle.history.proofs.GoodFolds.{free_fits_base, line_seated_on}
use Rattle.history.proofs.OneWait.{Saved, Waits, waits_from, placed, lapsing}
use Rattle.history.proofs.OpeningBase.{opening_good}
use Rattle.history.proofs.SmallHolds.{stand_few}
use Rattle.history.proofs.WhoWaits.{comes_back, few_wait}
use Rattle.history_text.specs.EntryLines.{HasLine}
use Rattle.history_text.proofs.Spelt.{all_spelt_on}

-- no more sleep on one condition than on all
asleep_part : (s : Start) (h : List Entry) (c n : ℕ) → c < n → length (sleepers s h c) ≤ length (asleep n s h)
asleep_part s h c zero l = absurd (omega (arith, l))
asleep_part s h c (suc n) l =
    grind (arith, nat_tests, length-append (asleep n s h) (sleepers s h n), asleep_part s h c n)

most_few : (o : Object) → most_exclusive o ≤ MOST_AMOUNT
most_few o = grind arith

pub free_few : (z : ℤ) → FitsSigned w32 z → at_least_none z ≤ MOST_AMOUNT
free_few z p = grind (arith, ints, nat_tests)

one_few : (n : ℕ) → at_most_one n ≤ 1
one_few n = grind (arith, nat_tests)

-- an object has few conditions
pub few_conditions : (o : Object) (c : ℕ) → IsOpening o c → c ≤ MOST_CONDITIONS
few_conditions o c r = grind arith

-- who comes back gets what it saved, on the condition where it slept
back_saved : (s : Start) (h : List Entry) (e : Entry) → Waits s h → KnownBy s h e word.Back → Saved s h e.seat
back_saved s h e v k = let b = comes_back s h v e.seat k.0 k.1 k.2 in subst (Saved s h) b.1 b.0.saved

module _ (b : Base) (h : List Entry) (e : Entry) (range : IsInRange b.header) (can : CanFold b h) where
  abbrev k : Header
  k = b.header

  abbrev s : Start
  s = based b

  waits : Waits s h
  waits = waits_from s h (good_waits b can.good) can.legal

  few_in_line : AllByRecursion AsksFew (line s h)
  few_in_line = line_few_on s h (stand_few b b.line can.good.line) can.legal

  left_few : (a : Arrival) → place_of e.seat (line s h) ≡ Some a → e.n ≡ a.n → e.n ≤ MOST_AMOUNT
  left_few a p q =
      subst (λ n. n ≤ MOST_AMOUNT) (sym q) (placed AsksFew e.seat (line s h) a few_in_line p)

  amount : e.seat < k.seats → (w : Word) → KnownBy s h e w → e.n ≤ MOST_AMOUNT
  amount seat word.Granted r = left_few r.0 r.1.stands (ap (λ (x : Entry). x.n) r.1.entry)
  amount seat word.Left r = left_few r.0 r.1.stands (ap (λ (x : Entry). x.n) r.1.entry)
  amount seat word.Back r =
      omega (arith, ap (λ (x : Entry). x.n) r.4, (back_saved s h e waits r).most, most_few k.object)
  amount seat word.Await r = omega (arith, r.2, waits.holds e.seat seat r.0.lock, most_few k.object)
  amount seat word.Signal r = omega (arith, r.1, one_few (length (sleepers s h e.at)))
  amount seat word.SignalAll r =
      omega (
        arith,
        r.1,
        asleep_part s h e.at k.conditions r.0.condition,
        few_wait s h waits (line_seated_on b can.good h can.legal can.seated),
        range.seats,
      )
  amount seat word.Lapse r = omega (arith, ap (λ (x : Entry). x.n) r.2)
  amount seat word.Drained r =
      omega (arith, ap (λ (x : Entry). x.n) r.2, free_few (free s h) (free_fits_base b h range can r.1))
  amount seat w r = grind (arith, asked_few k.object e.n)

  few_at : e.at < k.conditions → e.at ≤ LAST_CONDITION
  few_at l = omega (arith, l, few_conditions k.object k.conditions range.opening)

  condition : (w : Word) → KnownBy s h e w → e.at ≤ LAST_CONDITION
  condition word.Granted r = omega (arith, ap (λ (x : Entry). x.at) r.1.entry)
  condition word.Left r = omega (arith, ap (λ (x : Entry). x.at) r.1.entry)
  condition word.Back r =
      few_at (subst (λ c. c < k.conditions) (sym (ap (λ (x : Entry). x.at) r.4))
      (back_saved s h e waits r).condition)
  condition word.Await r = few_at r.0.condition
  condition word.Signal r = few_at r.0.condition
  condition word.SignalAll r = few_at r.0.condition
  condition word.Lapse r =
      let u = (lapsing s h e waits r.0 r.2).1 in
      few_at (subst (λ c. c < k.conditions) u.condition u.saved.condition)
  condition word.Drained r = omega (arith, ap (λ (x : Entry). x.at) r.2)
  condition w r = grind arith

entry_written : (b : Base) (h : List Entry) (e : Entry) → IsInRange b.header → CanFold b h →
    IsLegal (based b) (e ∷ h) → e.seat < b.header.seats → IsSpelt e → IsWritten e
entry_written b h e range can legal seat spelt =
    let r = known (based b) h legal.0.0 e legal.0.1 in
    record {
      words = spelt;
      amount = amount b h e range can seat e.word r;
      condition = condition b h e range can e.word r;
    }

lines_of : (b : Base) (h : List Entry) → IsInRange b.header → IsGood b → IsLegal (based b) h →
    AreSeated (based b) h → AllByRecursion IsSpelt h → AllByRecursion (HasLine b.header) h
lines_of b [] range good legal seated spelt = tt
lines_of b (e ∷ h) range good legal seated spelt = (
  record {
    seat = seated.0;
    written = entry_written b h e range (record { good = good; seated = seated.1; legal = legal.1 }) legal
        seated.0 spelt.0;
  },
  lines_of b h range good legal.1 seated.1 spelt.1,
)

-- each entry of a legal history on a good base, or on the opening one, has a line
pub all_have_lines : (b : Base) (h : List Entry) → IsInRange b.header → IsBaseOf b.header b →
    IsLegal (based b) h → AreSeated (based b) h → AllByRecursion (HasLine b.header) h
all_have_lines b h range is legal seated =
    lines_of b h range good legal seated (all_spelt_on (based b) h (good_waits b good) legal)
  where
    good : IsGood b
    good = ⊎_elim (λ e. subst IsGood (sym e) (opening_good b.header range)) (λ g. g.1) is.1
