-- What an object part spells is read again.
use Rattle.std.proofs.Common.{◌≡◌, ℕ, suc, ◌^◌, ◌<◌, ◌≤◌, true, List, [], ◌∷◌, length, Some, refl, ap, ◌∙◌, arith, decimal, ℤ, pos, negsuc, FitsSigned, codes, le-leb, ne_eqb}
use Rattle.std.specs.Int.{w32}
use Rattle.std.specs.Fmt.{signed_decimal}
use Rattle.std.proofs.lemmas.Fmt.{decimal_nonempty}
use Rattle.history.specs.Prelude.{LEAST_CAP, MOST_AMOUNT, MOST_CONDITIONS, MOST_SEATS, Header, Object, Lock, ReadWrite, Semaphore, Latch, Policy, Fair, IsInRange, IsOpening, line_of, words_of, policy_word, object_words, part_words, part_of, Words}
use Rattle.history.specs.inner.HeaderReading.{policy_at, permits_from, lock_at, semaphore_at, latch_at, header_at}
use Rattle.history.proofs.Numbers.{number_again, number_at_again, digits_alone}
use Rattle.history.proofs.Plain.{is_plain, ArePlain, words_again, decimal_plain, signed_plain}

unsigned_again : (bs : List ℕ) (n : ℕ) → n < 2 ^ 31 → bs ≡ decimal n → permits_from bs ≡ Some (pos n)
unfolding permits_from
unsigned_again [] n lt e = absurd (omega (arith, decimal_nonempty n (omega arith), ap length e))
unsigned_again (b ∷ bs) n lt e =
    let digit = digits_alone (b ∷ bs) n 0 (omega arith) (omega arith) e in
    rw (
      ne_eqb b 45 (λ same. omega (arith, digit)),
      e,
      number_again n (omega arith),
      le-leb n MOST_AMOUNT (omega arith),
    ) refl

pub permits_again : (z : ℤ) → FitsSigned w32 z → permits_from (signed_decimal z) ≡ Some z
unfolding permits_from
permits_again (pos n) fits = unsigned_again (decimal n) n (omega (arith, fits)) refl
permits_again (negsuc n) fits =
    rw (
      number_again (suc n) (omega (arith, fits)),
      le-leb 1 (suc n) (omega arith),
      le-leb (suc n) 2147483648 (omega (arith, fits)),
    ) refl

-- a policy is read again
policy_again : (p : Policy) (ws : Words) → policy_at (policy_word p ∷ ws) ≡ Some (p, ws)
policy_again Fair ws = refl
policy_again _ ws = refl

lock_again : (o : Policy → Object) (p : Policy) (n c k : ℕ) → 1 ≤ n → n ≤ MOST_SEATS → c ≤ MOST_CONDITIONS → LEAST_CAP ≤ k → k < 2 ^ 32
    → lock_at o (policy_word p ∷ codes "seats" ∷ decimal n ∷ codes "conditions" ∷ decimal c
    ∷ codes "cap" ∷ decimal k ∷ []) ≡ Some (record { object = o p; seats = n; conditions = c; cap = k }, [])
unfolding lock_at
lock_again o p n c k n1 n2 c2 k1 k2 =
    rw (
      policy_again p _,
      number_at_again 1 MOST_SEATS n _ (omega arith) n1 n2,
      number_at_again 0 MOST_CONDITIONS c _ (omega arith) (omega arith) c2,
      number_at_again LEAST_CAP 4294967295 k [] (omega arith) k1 (omega arith),
    ) refl

semaphore_again : (p : Policy) (z : ℤ) (n k : ℕ) → FitsSigned w32 z → 1 ≤ n → n ≤ MOST_SEATS → LEAST_CAP ≤ k → k < 2 ^ 32
    → semaphore_at (policy_word p ∷ codes "seats" ∷ decimal n ∷ codes "permits" ∷ signed_decimal z
    ∷ codes "cap" ∷ decimal k ∷ [])
    ≡ Some (record { object = Semaphore p z; seats = n; conditions = 0; cap = k }, [])
unfolding semaphore_at
semaphore_again p z n k fits n1 n2 k1 k2 =
    rw (
      policy_again p _,
      number_at_again 1 MOST_SEATS n _ (omega arith) n1 n2,
      permits_again z fits,
      number_at_again LEAST_CAP 4294967295 k [] (omega arith) k1 (omega arith),
    ) refl

latch_again : (q n k : ℕ) → q ≤ MOST_AMOUNT → 1 ≤ n → n ≤ MOST_SEATS → LEAST_CAP ≤ k → k < 2 ^ 32
    → latch_at (codes "seats" ∷ decimal n ∷ codes "count" ∷ decimal q ∷ codes "cap" ∷ decimal k ∷ [])
    ≡ Some (record { object = Latch q; seats = n; conditions = 0; cap = k }, [])
unfolding latch_at
latch_again q n k q2 n1 n2 k1 k2 =
    rw (
      number_at_again 1 MOST_SEATS n _ (omega arith) n1 n2,
      number_at_again 0 MOST_AMOUNT q _ (omega arith) (omega arith) q2,
      number_at_again LEAST_CAP 4294967295 k [] (omega arith) k1 (omega arith),
    ) refl

pub object_again : (o : Object) (n c k : ℕ) → IsOpening o c → 1 ≤ n → n ≤ MOST_SEATS → LEAST_CAP ≤ k → k < 2 ^ 32
    → header_at (object_words o n c k) ≡ Some (record { object = o; seats = n; conditions = c; cap = k }, [])
unfolding header_at
object_again (Lock p) n c k o n1 n2 k1 k2 = lock_again Lock p n c k n1 n2 o k1 k2
object_again (ReadWrite p) n c k o n1 n2 k1 k2 = lock_again ReadWrite p n c k n1 n2 o k1 k2
object_again (Semaphore p z) n c k o n1 n2 k1 k2 = rw o.0 (semaphore_again p z n k o.1 n1 n2 k1 k2)
object_again (Latch q) n c k o n1 n2 k1 k2 = rw o.0 (latch_again q n k o.1 n1 n2 k1 k2)

policy_plain : (p : Policy) → is_plain (policy_word p) ≡ true
policy_plain Fair = refl
policy_plain _ = refl

part_plain : (o : Object) (n c k : ℕ) → IsOpening o c → n ≤ MOST_SEATS → k < 2 ^ 32 → ArePlain (object_words o n c k)
part_plain (Lock p) n c k o n2 k2 = search (arith, policy_plain, decimal_plain)
part_plain (ReadWrite p) n c k o n2 k2 = search (arith, policy_plain, decimal_plain)
part_plain (Semaphore p z) n c k o n2 k2 = search (arith, policy_plain, decimal_plain, signed_plain)
part_plain (Latch q) n c k o n2 k2 = search (arith, decimal_plain)

pub plain_part : (h : Header) → IsInRange h → ArePlain (part_words h)
plain_part h fits = part_plain h.object h.seats h.conditions h.cap fits.opening fits.seats fits.cap

words_of_object : (o : Object) (n c k : ℕ) → ArePlain (object_words o n c k) →
    words_of (line_of (object_words o n c k)) ≡ object_words o n c k
words_of_object (Lock p) n c k plain = words_again _ _ plain
words_of_object _ n c k plain = words_again _ _ plain

pub part_again : (h : Header) → IsInRange h → header_at (words_of (part_of h)) ≡ Some (h, [])
part_again h fits =
    ap header_at (words_of_object h.object h.seats h.conditions h.cap (plain_part h fits))
    ∙ object_again h.object h.seats h.conditions h.cap fits.opening fits.some_seat fits.seats fits.some_room
    fits.cap
