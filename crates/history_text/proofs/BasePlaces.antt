-- The lines of seats and of sleepers, and what one more changes.
use Rattle.std.proofs.Common.{◌≡◌, ℕ, zero, suc, ◌+◌, ◌<◌, eqb, List, [], ◌∷◌, ◌++◌, length, map, get_or, refl, ap, ◌∙◌, sym, arith, append-nil, append_assoc, get_or-set_same, get_or-set_other}
use Rattle.std.specs.List.{AllByRecursion}
use Rattle.std.proofs.Math.ListN.{set}
use Rattle.std.proofs.lemmas.List.{map-append}
use Rattle.history_text.specs.Below.{SeatBase, Sleeper, LinePlace, Object, Base, nothing, total, seats_of, times}
use Rattle.history.proofs.Sums.{total_change}
use Rattle.history.proofs.Times.{one_if, times-append, times-line}
use Rattle.history_text.specs.Prelude.{Seat, Sleeps, first_line, seat_lines, sleeper_lines}

pub seat_lines_push : (i : ℕ) (xs : List SeatBase) (x : SeatBase) (n : ℕ) → i + length xs ≡ n →
    seat_lines i (xs ++ x ∷ []) ≡ seat_lines i xs ++ Seat n x ∷ []
seat_lines_push i [] x n e = let q : i ≡ n = omega arith in ap (λ (j : ℕ). Seat j x ∷ []) q
seat_lines_push i (y ∷ xs) x n e =
    ap (λ l. Seat i y ∷ l) (seat_lines_push (i + 1) xs x n (omega arith))

-- nobody sleeps
pub no_lines : (c : ℕ) (lists : List (List Sleeper)) → ((d : ℕ) → get_or lists d [] ≡ []) →
    sleeper_lines c lists ≡ []
no_lines c [] none = refl
no_lines c (xs ∷ rest) none =
    ap (λ l. map (Sleeps c) l ++ sleeper_lines (c + 1) rest) (none 0)
    ∙ no_lines (c + 1) rest (λ d. none (suc d))

pub sleeper_lines_push : (c : ℕ) (lists : List (List Sleeper)) (n m : ℕ) (x : Sleeper) → c + n ≡ m →
    n < length lists → ((d : ℕ) → n < d → get_or lists d [] ≡ []) →
    sleeper_lines c (set lists n (get_or lists n [] ++ x ∷ [])) ≡ sleeper_lines c lists ++ Sleeps m x ∷ []
sleeper_lines_push c [] n m x e l none = absurd (omega arith)
sleeper_lines_push c (xs ∷ rest) zero m x e l none =
    let same : c ≡ m = omega arith in
    simp (no_lines (c + 1) rest (λ d. none (suc d) (omega arith)), map-append, append-nil, ← same)
sleeper_lines_push c (xs ∷ rest) (suc n) m x e l none =
    ap (λ t. map (Sleeps c) xs ++ t)
    (sleeper_lines_push (c + 1) rest n m x (omega arith) (omega arith)
    (λ d g. none (suc d) (let h : n < d = g in omega arith)))
    ∙ sym (append_assoc (map (Sleeps c) xs) (sleeper_lines (c + 1) rest) (Sleeps m x ∷ []))

-- the first line says no more than this
pub first_line_same : (o : Object) (a b : Base) → a.entries ≡ b.entries → a.unheld ≡ b.unheld →
    a.count ≡ b.count → first_line o a ≡ first_line o b
first_line_same o a b e u q = grind arith

-- one seat's part is put into a sum over all
pub total_put : (n : ℕ) (f : SeatBase → ℕ) (xs : List SeatBase) (i : ℕ) (x : SeatBase) → i < n →
    i < length xs → f (get_or xs i nothing) ≡ 0 →
    total n (λ j. f (get_or (set xs i x) j nothing)) ≡ total n (λ j. f (get_or xs j nothing)) + f x
total_put n f xs i x l m z =
    let e = total_change n (λ j. f (get_or (set xs i x) j nothing)) (λ j. f (get_or xs j nothing)) i l
    (λ j ne. ap f (get_or-set_other xs i j x nothing ne)) in
    let d : f (get_or (set xs i x) i nothing) ≡ f x = ap f (get_or-set_same xs i x nothing m) in
    omega (arith, e, d, z)

-- who waits, once more
pub times_standing : (i : ℕ) (p q : List LinePlace) →
    times i (seats_of (map (λ p. p.who) (p ++ q)))
    ≡ times i (seats_of (map (λ p. p.who) p)) + times i (seats_of (map (λ p. p.who) q))
times_standing i p q =
    rw (map-append (λ (p : LinePlace). p.who) p q)
    (times-line i (map (λ p. p.who) p) (map (λ p. p.who) q))

pub times_sleeping : (i : ℕ) (xs ys : List Sleeper) →
    times i (map (λ x. x.seat) (xs ++ ys)) ≡ times i (map (λ x. x.seat) xs) + times i (map (λ x. x.seat) ys)
times_sleeping i xs ys =
    rw (map-append (λ (x : Sleeper). x.seat) xs ys)
    (times-append i (map (λ x. x.seat) xs) (map (λ x. x.seat) ys))

pub total_sleeps : (n i : ℕ) (lists : List (List Sleeper)) (c : ℕ) (x : Sleeper) → c < n →
    c < length lists →
    total n (λ d. times i (map (λ x. x.seat) (get_or (set lists c (get_or lists c [] ++ x ∷ [])) d [])))
    ≡ total n (λ d. times i (map (λ x. x.seat) (get_or lists d []))) + one_if (eqb x.seat i)
total_sleeps n i lists c x l m =
    let of : List Sleeper → ℕ = λ xs. times i (map (λ x. x.seat) xs) in
    let e = total_change n (λ d. of (get_or (set lists c (get_or lists c [] ++ x ∷ [])) d []))
    (λ d. of (get_or lists d [])) c l
    (λ d ne. ap of (get_or-set_other lists c d (get_or lists c [] ++ x ∷ []) [] ne)) in
    let d : of (get_or (set lists c (get_or lists c [] ++ x ∷ [])) c []) ≡ of (get_or lists c [] ++ x ∷ []) =
    ap of (get_or-set_same lists c (get_or lists c [] ++ x ∷ []) [] m) in
    omega (arith, e, d, times_sleeping i (get_or lists c []) (x ∷ []))

-- what follows from each holds of each
pub each_then : {A : Type 0} (P Q : A → Type 0) → ((x : A) → P x → Q x) → (xs : List A) →
    AllByRecursion P xs → AllByRecursion Q xs
each_then P Q f [] all = tt
each_then P Q f (x ∷ xs) all = (f x all.0, each_then P Q f xs all.1)
