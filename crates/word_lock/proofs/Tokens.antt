-- Tokens with one seat, and the tokens of an opening.
use Rattle.std.proofs.Common.{◌≡◌, ℕ, zero, suc, ◌+◌, List, [], ◌∷◌, ◌++◌, length, refl, ◌∙◌, sym, arith, length-append}
use Rattle.history.specs.declared.point.Point.{Point}
use Rattle.word_lock.specs.Prelude.{SeatLog, LockId, Ticket, first_seat, first_entries, opening_ticket, opening_tickets}
use Rattle.std.specs.List.{All}
use Rattle.std.proofs.lemmas.List.Elements.{All-nil, All-cons}
use Rattle.word_lock.specs.Ready.{IsReady}
use Rattle.word_lock.proofs.Opening.{opening_tickets_more}

pub one_log : (logs : List SeatLog) → length logs ≡ 1 →
    logs ≡ record { seat = first_seat logs; entries = first_entries logs } ∷ []
one_log [] e = absurd (omega arith)
one_log (l ∷ []) e = refl
one_log (l ∷ k ∷ ls) e = absurd (omega arith)

-- what stands last in two ways
last_is : {A : Type 0} (l m : List A) (a b : A) → length l ≡ length m → l ++ a ∷ [] ≡ m ++ b ∷ [] → (l ≡ m)
    × (a ≡ b)
last_is [] [] a b n e = (refl, cc e)
last_is [] (y ∷ ys) a b n e = absurd (omega arith)
last_is (x ∷ xs) [] a b n e = absurd (omega arith)
last_is (x ∷ xs) (y ∷ ys) a b n e =
    let same : length xs ≡ length ys = omega arith in let heads : x ≡ y = cc e in
    let tails : xs ++ a ∷ [] ≡ ys ++ b ∷ [] = cc e in
    let t = last_is xs ys a b same tails in ((λ d. heads d ∷ t.0 d), t.1)

length-opening_tickets : (lock : LockId) (p : Point) (k n : ℕ) → length (opening_tickets lock p k n) ≡ n
length-opening_tickets lock p k zero = refl
length-opening_tickets lock p k (suc n) = let h = length-opening_tickets lock p (suc k) n in omega arith

-- the last of the tokens of an opening is that of the last seat
pub last_opening_ticket : (lock : LockId) (p : Point) (n : ℕ) (l : List Ticket) (t : Ticket) →
    opening_tickets lock p 0 (suc n) ≡ l ++ t ∷ []
    → (l ≡ opening_tickets lock p 0 n) × (t ≡ opening_ticket lock n p)
last_opening_ticket lock p n l t e =
    let here : n ≡ 0 + n = omega arith in
    let count : length l ≡ length (opening_tickets lock p 0 n) =
    omega (
      arith,
      length-append l (t ∷ []),
      length-opening_tickets lock p 0 n,
      length-opening_tickets lock p 0 (suc n),
      (let h : length (opening_tickets lock p 0 (suc n)) ≡ length (l ++ t ∷ []) = (λ d. length (e d)) in
          h),
    ) in
    last_is l (opening_tickets lock p 0 n) t (opening_ticket lock n p) count (sym e
    ∙ sym (opening_tickets_more lock p 0 n n here))

-- each token of an opening may step
pub opening_tickets_ready : (lock : LockId) (p : Point) (k n : ℕ) →
    All (λ t. IsReady lock (first_seat t.logs) t) (opening_tickets lock p k n)
opening_tickets_ready lock p k zero = All-nil (λ t. IsReady lock (first_seat t.logs) t)
opening_tickets_ready lock p k (suc n) =
    All-cons (λ t. IsReady lock (first_seat t.logs) t) (opening_ticket lock k p)
    (opening_tickets lock p (suc k) n) record { own = refl; free = refl; one = refl; seat_is = refl }
    (opening_tickets_ready lock p (suc k) n)
