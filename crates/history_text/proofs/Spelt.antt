-- Each entry of a legal history of an object as opened has a spelling.
use Rattle.std.proofs.Common.{◌≡◌, ◌≢◌, ◌⊎◌, inl, inr, ℕ, true, false, List, [], ◌∷◌, Some, Ok, ap, sym, subst, arith, ⊎_elim}
use Rattle.std.specs.List.{AllByRecursion}
use Rattle.std.proofs.lemmas.Bool.Decides.{nat_tests}
use Rattle.history_text.specs.Below.{Arrival, End, Entry, Mode, S, Word, Object, Step, IsSpelt, HasWords, CameBack, lacks_mode, is_bad_number, line, place_of, IsLegal, is_latch, phase, last_sleep, Start, entry_for}
use Rattle.history.specs.declared.entry.End.TheVariants as end
use Rattle.history.specs.declared.entry.Word.TheVariants as word
use Rattle.history.specs.EntryWords.{GaveUp}
use Rattle.history.proofs.Entering.{KnownBy, known, by_phase}
use Rattle.history_text.proofs.Made.{IsMadeBy, RefusesByRecorded, made}
use Rattle.history.proofs.OneWait.{Waits, waits_from}
use Rattle.history.proofs.WhoWaits.{comes_back}

latch_asks : (o : Object) (m : Mode) (n : ℕ) → is_latch o ≡ true → lacks_mode o m ≡ false →
    is_bad_number o n ≡ false → (m ≡ S) × (n ≡ 1)
latch_asks o m n l q r = grind (arith, nat_tests)

gave_up : (e : End) → (e ≡ end.Timeout) ⊎ (e ≡ end.Interrupt) → GaveUp e
gave_up e q = grind arith

pub came_back : (e : End) → e ≢ end.None → CameBack e
came_back e p = grind arith

-- who comes back has an end to come back with
way_back : (s : Start) (h : List Entry) (i : ℕ) (a : Arrival) → Waits s h → place_of i (line s h) ≡ Some a →
    a.back ≡ true → CameBack (last_sleep s h i).how
way_back s h i a w p b =
    let known = comes_back s h w i a p b in
    subst (λ (j : ℕ). CameBack (last_sleep s h j).how) known.1
    (came_back (last_sleep s h a.seat).how known.0.how)

spelt_by : (s : Start) (h : List Entry) (e : Entry) (w : Word) → Waits s h → KnownBy s h e w →
    RefusesByRecorded w → HasWords w e.mode e.n e.at e.end
spelt_by s h e word.Counted r k f =
    let asks = latch_asks s.header.object e.mode e.n k.1 k.0.mode k.0.amount in
    (asks.0, asks.1, k.0.at, k.0.end)
spelt_by s h e word.Granted r k f = (ap (λ (x : Entry). x.at) k.1.entry, k.3)
spelt_by s h e word.Left r k f =
    (ap (λ (x : Entry). x.at) k.1.entry, gave_up e.end (⊎_elim (λ p. inl p.0) (λ p. inr p) k.2))
spelt_by s h e word.Back r k f = (
  ap (λ (x : Entry). x.mode) k.4,
  subst CameBack (sym (ap (λ (x : Entry). x.end) k.4)) (way_back s h e.seat k.0 r k.1 k.2),
)
spelt_by s h e word.Lapse r k f =
    (ap (λ (x : Entry). x.mode) k.2, ap (λ (x : Entry). x.n) k.2, gave_up e.end k.1)
spelt_by s h e word.Drained r k f =
    (ap (λ (x : Entry). x.mode) k.2, ap (λ (x : Entry). x.at) k.2, ap (λ (x : Entry). x.end) k.2)
spelt_by s h e w r k f = assumption

-- ---- a legal history from an opening

pub seat_made : (s : Start) (h : List Entry) (i : ℕ) (step : Step) (e : Entry) →
    entry_for s h i step ≡ Ok (Some e) → IsMadeBy i e
seat_made s h i step e q = made s h i step e (phase s h i) (by_phase s h i step e q)

-- ---- a legal history from any start at which everybody who waits does so rightly

pub all_spelt_on : (s : Start) (h : List Entry) → Waits s [] → IsLegal s h → AllByRecursion IsSpelt h
all_spelt_on s [] w legal = tt
all_spelt_on s (e ∷ h) w legal = (
  spelt_by s h e e.word (waits_from s h w legal.1) (known s h legal.0.0 e legal.0.1)
      (seat_made s h e.seat legal.0.0 e legal.0.1).fault,
  all_spelt_on s h w legal.1,
)
