-- What an entry makes of the line.
use Rattle.std.proofs.Common.{◌≡◌, ℕ, ◌+◌, ◌≤◌, Bool, true, false, not, ◌&&◌, eqb, leb, List, [], ◌∷◌, ◌++◌, length, map, Option, None, refl, ap, ◌∙◌, sym, subst, arith, le-leb}
use Rattle.std.proofs.Math.Bool.{and-true}
use Rattle.std.specs.List.{filter, AllByRecursion}
use Rattle.std.proofs.lemmas.List.Elements.{filter-append}
use Rattle.std.proofs.lemmas.List.{map-append}
use Rattle.std.proofs.lemmas.Bool.Decides.{nat_tests}
use Rattle.history.specs.Prelude.{Start, Entry, Arrival, Word, ends_arrival, Arrived, arrived_at, arrivals, arrivals_by, Ending, ending, first_ending, is_open, stands, line}
use Rattle.history.proofs.Times.{each-append}

-- the arrivals of a history came by its entries
below_more : (n : ℕ) (xs : List Arrived) → AllByRecursion (λ a. a.place ≤ n) xs →
    AllByRecursion (λ a. a.place ≤ n + 1) xs
below_more n [] p = tt
below_more n (x ∷ xs) p = (omega (arith, p.0), below_more n xs p.1)

below_new : (m n : ℕ) (xs : List Arrival) → m ≤ n → AllByRecursion (λ a. a.place ≤ n) (map (arrived_at m) xs)
below_new m n [] p = tt
below_new m n (x ∷ xs) p = (p, below_new m n xs p)

length_more : (e : Entry) (h : List Entry) → length (e ∷ h) ≡ length h + 1
length_more e h = omega arith

pub arrivals_below : (s : Start) (h : List Entry) → AllByRecursion (λ a. a.place ≤ length h) (arrivals s h)
arrivals_below s [] = below_new 0 0 s.line (omega arith)
arrivals_below s (e ∷ h) =
    let P : ℕ → Type 0 = λ n. AllByRecursion (λ a. a.place ≤ n) (arrivals s (e ∷ h)) in
    let old = below_more (length h) (arrivals s h) (arrivals_below s h) in
    let new = below_new (length h) (length h + 1) (arrivals_by s e.word e h) (omega arith) in
    subst P (sym (length_more e h)) (each-append (λ a. a.place ≤ length h + 1) (arrivals s h) _ old new)

-- whether an entry leaves an arrival in line
abbrev pub keeps : Word → ℕ → Arrived → Bool
keeps w i a = not (ends_arrival w && eqb i a.who.seat)

open_then : (o : Option Ending) (b : Bool) (y : Ending) → is_open (first_ending o b y) ≡ (is_open o && not b)
open_then o b y = grind arith

stands_more : (e : Entry) (h : List Entry) (a : Arrived) → a.place ≤ length h →
    stands (e ∷ h) a ≡ (stands h a && keeps e.word e.seat a)
stands_more e h a p =
    let t : leb a.place (length h) ≡ true = le-leb _ _ p in
    let b = ends_arrival e.word && eqb e.seat a.who.seat in
    open_then (ending h a.who.seat a.place) (b && leb a.place (length h)) _
    ∙ ap (λ x. stands h a && not (b && x)) t
    ∙ ap (λ x. stands h a && not x) (and-true b)

filter_two : (p q r : Arrived → Bool) (n : ℕ) (xs : List Arrived) → AllByRecursion (λ a. a.place ≤ n) xs →
    ((a : Arrived) → a.place ≤ n → p a ≡ (q a && r a)) → filter p xs ≡ filter r (filter q xs)
filter_two p q r n [] all same = refl
filter_two p q r n (x ∷ xs) all same =
    grind (arith, same x all.0, filter_two p q r n xs all.1 same)

filter_all : (p : Arrived → Bool) (n : ℕ) (xs : List Arrival) →
    ((a : Arrival) → p (arrived_at n a) ≡ true) → filter p (map (arrived_at n) xs) ≡ map (arrived_at n) xs
filter_all p n [] all = refl
filter_all p n (x ∷ xs) all = rw (all x) (ap (λ l. arrived_at n x ∷ l) (filter_all p n xs all))

-- no entry has a number from the length on
pub ending_past : (h : List Entry) (i from : ℕ) → length h ≤ from → ending h i from ≡ None
ending_past [] i from p = refl
ending_past (e ∷ h) i from p =
    grind (arith, nat_tests, length_more e h, ending_past h i from)

-- what stays in line at an entry of a seat
abbrev pub stays : Word → ℕ → Arrival → Bool
stays w i a = not (ends_arrival w && eqb i a.seat)

map_filter : (w : Word) (i : ℕ) (xs : List Arrived) →
    map (λ a. a.who) (filter (keeps w i) xs) ≡ filter (stays w i) (map (λ a. a.who) xs)
map_filter w i [] = refl
map_filter w i (x ∷ xs) = grind (arith, map_filter w i xs)

map_who : (n : ℕ) (xs : List Arrival) → map (λ a. a.who) (map (arrived_at n) xs) ≡ xs
map_who n [] = refl
map_who n (x ∷ xs) = ap (λ l. x ∷ l) (map_who n xs)

new_stand : (s : Start) (e : Entry) (h : List Entry) (b : Bool) → ends_arrival e.word ≡ b →
    (b ≡ true → arrivals_by s e.word e h ≡ []) →
    filter (stands (e ∷ h)) (map (arrived_at (length h)) (arrivals_by s e.word e h))
    ≡ map (arrived_at (length h)) (arrivals_by s e.word e h)
new_stand s e h true p none = rw (none refl) refl
new_stand s e h false p none =
    filter_all (stands (e ∷ h)) (length h) (arrivals_by s e.word e h) (λ a.
    open_then (ending h a.seat (length h)) _ _ ∙ rw (ending_past h a.seat (length h)
    (omega arith)) (rw p refl))

pub no_arrival : (s : Start) (w : Word) (e : Entry) (h : List Entry) → ends_arrival w ≡ true →
    arrivals_by s w e h ≡ []
no_arrival s w e h p = grind arith

-- the line after an entry: those whose wait it doesn't end, and then those who arrive by it
pub line_after : (s : Start) (e : Entry) (h : List Entry) →
    line s (e ∷ h) ≡ filter (stays e.word e.seat) (line s h) ++ arrivals_by s e.word e h
line_after s e h =
    let new = map (arrived_at (length h)) (arrivals_by s e.word e h) in
    let parts : filter (stands (e ∷ h)) (arrivals s h ++ new) ≡ filter (stands (e ∷ h)) (arrivals s h)
    ++ filter (stands (e ∷ h)) new = filter-append (stands (e ∷ h)) (arrivals s h) new in
    let old : filter (stands (e ∷ h)) (arrivals s h) ≡ filter (keeps e.word e.seat)
    (filter (stands h) (arrivals s h)) =
    filter_two _ _ _ (length h) (arrivals s h) (arrivals_below s h) (stands_more e h) in
    let fresh : filter (stands (e ∷ h)) new ≡ new =
    new_stand s e h (ends_arrival e.word) refl (no_arrival s e.word e h) in
    ap (map (λ a. a.who)) parts
    ∙ map-append (λ a. a.who) _ _
    ∙ ap (λ l. map (λ a. a.who) l ++ map (λ a. a.who) (filter (stands (e ∷ h)) new)) old
    ∙ ap (λ l. l ++ map (λ a. a.who) (filter (stands (e ∷ h)) new))
    (map_filter e.word e.seat (filter (stands h) (arrivals s h)))
    ∙ ap (λ l. filter (stays e.word e.seat) (line s h) ++ map (λ a. a.who) l) fresh
    ∙ ap (λ l. filter (stays e.word e.seat) (line s h) ++ l) (map_who (length h) (arrivals_by s e.word e h))

-- all who stand there at a start stand before any entry
pub line_at_first : (s : Start) → line s [] ≡ s.line
line_at_first s = by s.line
  where
    by : (arrivals : List Arrival) →
        map (λ a. a.who) (filter (stands []) (map (arrived_at 0) arrivals)) ≡ arrivals
    by [] = refl
    by (a ∷ arrivals) = ap (λ l. a ∷ l) (by arrivals)
