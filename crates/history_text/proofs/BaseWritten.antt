-- Lines of a base, written or followed one after another.
use Rattle.std.proofs.Common.{◌≡◌, ℕ, suc, ◌+◌, ◌<◌, List, [], ◌∷◌, ◌++◌, length, map, get_or, drop, take, min, refl, sym, ap, ◌∙◌, ◌≤◌, arith, append_assoc, append-nil, length-take, subst}
use Rattle.std.proofs.lemmas.List.{drop-map, take-append-le}
use Rattle.std.proofs.Math.Seq.{drop-cons}
use Rattle.std.specs.List.{AllByRecursion}
use Rattle.history_text.specs.Below.{SeatBase, Sleeper}
use Rattle.history_text.specs.Prelude.{BaseLine, Seat, Sleeps, seat_lines, sleeper_lines, lines_text, IsBaseLine}

-- what was there first stays there if more is written
pub front_kept : (old out new xs : List ℕ) → take (length old) out ≡ old → new ≡ out ++ xs →
    take (length old) new ≡ old
front_kept old out new xs kept is =
    let long : min (length old) (length out) ≡ length old =
    sym (length-take (length old) out) ∙ ap length kept in
    let le : length old ≤ length out = omega (arith, long) in
    ap (take (length old)) is ∙ take-append-le (length old) out xs le ∙ kept

-- one line more is written
pub line_written : (out new : List ℕ) (x : BaseLine) (rest : List BaseLine) (all : List ℕ) →
    out ++ lines_text (x ∷ rest) ≡ all → new ≡ out ++ lines_text (x ∷ []) → new ++ lines_text rest ≡ all
line_written out new x rest all was is =
    ap (λ (t : List ℕ). t ++ lines_text rest) (is ∙ ap (λ (t : List ℕ). out ++ t) (append-nil _))
    ∙ append_assoc out _ (lines_text rest) ∙ was

-- one of the lines that are left is written
pub one_put : (old out new all : List ℕ) (x : BaseLine) (left rest : List BaseLine) → left ≡ x ∷ rest →
    out ++ lines_text left ≡ all → take (length old) out ≡ old → AllByRecursion IsBaseLine left →
    new ≡ out ++ lines_text (x ∷ []) →
    (new ++ lines_text rest ≡ all) × (take (length old) new ≡ old) × AllByRecursion IsBaseLine rest
one_put old out new all x left rest e lines kept each is = (
  line_written out new x rest all (ap (λ (l : List BaseLine). out ++ lines_text l) (sym e) ∙ lines) is,
  front_kept old out new _ kept is,
  (subst (AllByRecursion IsBaseLine) e each).1,
)

-- what is left begins with the one at this place
pub left_at : {X : Type 0} (f : X → BaseLine) (xs : List X) (i : ℕ) (d : X) → i < length xs →
    map f (drop i xs) ≡ f (get_or xs i d) ∷ map f (drop (i + 1) xs)
left_at f xs i d lt =
    let next : suc i ≡ i + 1 = omega arith in
    ap (map f) (drop-cons xs i d lt) ∙ ap (λ (k : ℕ). f (get_or xs i d) ∷ map f (drop k xs)) next

pub seats_left : (xs : List SeatBase) (i : ℕ) (d : SeatBase) → i < length xs →
    seat_lines i (drop i xs) ≡ Seat i (get_or xs i d) ∷ seat_lines (i + 1) (drop (i + 1) xs)
seats_left xs i d lt =
    let next : suc i ≡ i + 1 = omega arith in
    ap (seat_lines i) (drop-cons xs i d lt)
    ∙ ap (λ (k : ℕ). Seat i (get_or xs i d) ∷ seat_lines (i + 1) (drop k xs)) next

-- the lines of the list at this place come first
pub lists_left : {V : Type 0} (f : V → List Sleeper) (xs : List V) (c : ℕ) (d : V) (list : List Sleeper) →
    c < length xs → list ≡ f (get_or xs c d) →
    sleeper_lines c (drop c (map f xs))
    ≡ map (Sleeps c) list ++ sleeper_lines (c + 1) (drop (c + 1) (map f xs))
lists_left f xs c d list lt is =
    let next : suc c ≡ c + 1 = omega arith in
    ap (sleeper_lines c) (drop-map f c xs ∙ ap (map f) (drop-cons xs c d lt)
    ∙ ap (λ (l : List (List Sleeper)). f (get_or xs c d) ∷ l) (sym (drop-map f (suc c) xs)))
    ∙ ap (λ (k : ℕ). map (Sleeps c) (f (get_or xs c d)) ++ sleeper_lines (c + 1) (drop k (map f xs))) next
    ∙ ap (λ (l : List Sleeper). map (Sleeps c) l ++ sleeper_lines (c + 1) (drop (c + 1) (map f xs))) (sym is)

pub lines_text-append : (xs ys : List BaseLine) → lines_text (xs ++ ys) ≡ lines_text xs ++ lines_text ys
lines_text-append [] ys = refl
lines_text-append (x ∷ xs) ys = simp (lines_text-append xs ys, append_assoc)

-- some lines more are written
pub lines_written : (out new : List ℕ) (xs rest : List BaseLine) (all : List ℕ) →
    out ++ lines_text (xs ++ rest) ≡ all → new ≡ out ++ lines_text xs → new ++ lines_text rest ≡ all
lines_written out new xs rest all was is = simp (is, append_assoc, ← (lines_text-append xs rest)) was

-- all lines are written, the first one and those of three lists
pub four_written : (out a b c d : List ℕ) (x : BaseLine) (xs ys zs : List BaseLine) →
    a ≡ out ++ lines_text (x ∷ []) → b ≡ a ++ lines_text xs → c ≡ b ++ lines_text ys →
    d ≡ c ++ lines_text zs →
    d ≡ out ++ lines_text (x ∷ (xs ++ (ys ++ zs)))
four_written out a b c d x xs ys zs p q r s = simp (s, r, q, p, lines_text-append, append_assoc, append-nil)
