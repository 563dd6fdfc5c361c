-- One in line stays there while others' entries come.
use Rattle.std.proofs.Common.{◌≡◌, ◌≢◌, ◌⊎◌, inl, inr, arith, ℕ, Bool, true, false, List, [], ◌∷◌, ◌++◌, Some, None, refl, ap, ◌∙◌}
use Rattle.std.specs.List.{filter}
use Rattle.std.proofs.lemmas.Bool.Decides.{nat_tests}
use Rattle.history.specs.Prelude.{Arrival, Entry, ends_arrival, line, arrivals_by, place_of, Start}
use Rattle.history.proofs.LineLemmas.{line_after, stays}

-- a place in a part of a line, and in a line with more behind it
pub place_filter : (p : Arrival → Bool) (i : ℕ) (q : List Arrival) →
    ((a : Arrival) → a.seat ≡ i → p a ≡ true) → place_of i (filter p q) ≡ place_of i q
place_filter p i [] keeps = refl
place_filter p i (a ∷ q) keeps = grind (arith, nat_tests, keeps a, place_filter p i q keeps)

place_append : (i : ℕ) (q r : List Arrival) (a : Arrival) → place_of i q ≡ Some a →
    place_of i (q ++ r) ≡ Some a
place_append i [] r a p = cc
place_append i (b ∷ q) r a p = grind (arith, place_append i q r a)

pub place_behind : (i : ℕ) (q r : List Arrival) → place_of i q ≡ None → place_of i (q ++ r) ≡ place_of i r
place_behind i [] r p = refl
place_behind i (b ∷ q) r p = grind (arith, place_behind i q r)

-- the places in line that an entry keeps: all but its own seat's, and that too where it ends no wait
keeps_place : (e : Entry) (i : ℕ) → (e.seat ≢ i) ⊎ (ends_arrival e.word ≡ false) → (b : Arrival) → b.seat ≡ i →
    stays e.word e.seat b ≡ true
keeps_place e i why b same = grind (arith, nat_tests)

module _ (s : Start) (e : Entry) (h : List Entry) (i : ℕ) (why : (e.seat ≢ i) ⊎ (ends_arrival e.word ≡ false)) where
  stays_by : (a : Arrival) → place_of i (line s h) ≡ Some a → place_of i (line s (e ∷ h)) ≡ Some a
  stays_by a p =
      ap (place_of i) (line_after s e h)
      ∙ place_append i (filter (stays e.word e.seat) (line s h)) _ a
      (place_filter (stays e.word e.seat) i (line s h) (keeps_place e i why) ∙ p)

  arrives : place_of i (line s h) ≡ None → place_of i (line s (e ∷ h)) ≡ place_of i (arrivals_by s e.word e h)
  arrives p =
      ap (place_of i) (line_after s e h)
      ∙ place_behind i (filter (stays e.word e.seat) (line s h)) _
      (place_filter (stays e.word e.seat) i (line s h) (keeps_place e i why) ∙ p)

pub stays_in_line : (s : Start) (e : Entry) (h : List Entry) (i : ℕ) (a : Arrival) → e.seat ≢ i →
    place_of i (line s h) ≡ Some a → place_of i (line s (e ∷ h)) ≡ Some a
stays_in_line s e h i a ne p = stays_by s e h i (inl ne) a p

-- who stood in no line stands there behind an entry where it arrives by it
pub arrives_by : (s : Start) (e : Entry) (h : List Entry) (i : ℕ) → e.seat ≢ i →
    place_of i (line s h) ≡ None →
    place_of i (line s (e ∷ h)) ≡ place_of i (arrivals_by s e.word e h)
arrives_by s e h i ne p = arrives s e h i (inl ne) p

pub stays_while : (s : Start) (e : Entry) (h : List Entry) (i : ℕ) (a : Arrival) →
    ends_arrival e.word ≡ false →
    place_of i (line s h) ≡ Some a → place_of i (line s (e ∷ h)) ≡ Some a
stays_while s e h i a t p = stays_by s e h i (inr t) a p

pub arrives_itself : (s : Start) (e : Entry) (h : List Entry) (i : ℕ) → ends_arrival e.word ≡ false →
    place_of i (line s h) ≡ None → place_of i (line s (e ∷ h)) ≡ place_of i (arrivals_by s e.word e h)
arrives_itself s e h i t p = arrives s e h i (inr t) p
