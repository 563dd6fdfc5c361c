-- A lock or read-write lock has one owner.
use Rattle.std.proofs.Common.{◌≡◌, ◌≢◌, ◌⊎◌, inl, inr, ⊎_elim, ℕ, zero, suc, ◌+◌, ◌<◌, ◌≤◌, Bool, true, false, ◌&&◌, cond, eqb, ltb, List, [], ◌∷◌, Option, Some, None, refl, ap, ◌∙◌, sym, subst, arith, eqb-true, ltb-true}
use Rattle.std.proofs.lemmas.Bool.{cases_lt, and_parts}
use Rattle.std.proofs.lemmas.Bool.Decides.{nat_tests}
use Rattle.history.specs.Prelude.{MOST_HOLDS, MOST_READ_WRITE_HOLDS, Arrival, Entry, Mode, X, S, Word, Header, Object, Lock, ReadWrite, could, could_of, is_none_or, is_seat, Counts, counts, held, holds_after, owner, readers, total, same_mode, AreSeated, IsLegal, line, place_of, in_holds, is_lock, IsOwned, IsSaved, is_away, most_shared, phase, phase_by, sleeps_below, Start, opening}
use Rattle.history.specs.declared.entry.Word.TheVariants as word
use Rattle.history.proofs.Entering.{Known, KnownBy, known, seat_is}
use Rattle.history.proofs.OneWait.{Saved, SavedIfBack, Waits, opening_waits, placed, waits, waits_from}
use Rattle.history.proofs.Owners.{nobody_holds, owner_holds, ready_could, semaphore_no_lock}
use Rattle.history.proofs.SleepLemmas.{held_other, sleeps_at}
use Rattle.history.proofs.Sums.{total_change, total_nothing, total_same}
use Rattle.history.proofs.Times.{place_once, total_part}

-- What is known of all holds: one owner, alone, few readers, and nobody but the seats holds anything.
pub record Owned (s : Start) (h : List Entry) : Type 0 where
  pub one : (i j : ℕ) → 0 < held s h i X → 0 < held s h j X → i ≡ j
  pub alone : (i j : ℕ) → 0 < held s h i X → 0 < held s h j S → i ≡ j
  pub shared : total s.header.seats (λ i. held s h i S) ≤ most_shared s.header.object
  pub seats : (i : ℕ) (m : Mode) → s.header.seats ≤ i → held s h i m ≡ 0

pub none_or_some : (n : ℕ) → (n ≡ 0) ⊎ (0 < n)
none_or_some zero = inl refl
none_or_some (suc n) = inr (omega arith)

pub cases_below : (a b : ℕ) → (a < b) ⊎ (b ≤ a)
cases_below a b = cases_lt a b

-- where a seat or nobody owns, nobody else has exclusive holds
others_own_nothing : (s : Start) (h : List Entry) (i : ℕ) → Owned s h →
    is_none_or (owner (counts s h)) i ≡ true → (j : ℕ) → j ≢ i → held s h j X ≡ 0
others_own_nothing s h i v t j ne =
    let within = nobody_holds (counts s h) j in
    grind (arith, nat_tests, t, ne, within, owner_holds (counts s h), v.seats j X, v.one i j)

-- where nobody reads, nobody has shared holds
nobody_reads : (s : Start) (h : List Entry) → Owned s h → total s.header.seats (λ i. held s h i S) ≡ 0 →
    (j : ℕ) → held s h j S ≡ 0
nobody_reads s h v none j =
    ⊎_elim (λ l. omega (arith, total_part s.header.seats (λ i. held s h i S) j l, none)) (λ l. v.seats j S l)
    (cases_below j s.header.seats)

-- What an entry of a lock does to holds: its seat takes exclusively where nobody else holds anything, takes
-- to read where nobody else owns and not all may read, or no holds grow.
data Changes (s : Start) (e : Entry) (h : List Entry) : Type 0 where
  Writes : (mode : e.mode ≡ X) → (nobody : (j : ℕ) (m : Mode) → j ≢ e.seat → held s h j m ≡ 0) →
      Changes s e h
  Reads : (mode : e.mode ≡ S) → (nobody : (j : ℕ) → j ≢ e.seat → held s h j X ≡ 0) →
      (few : total s.header.seats (λ i. held s h i S) < most_shared s.header.object) →
      (one : (x : ℕ) → holds_after s.header.object e.word e.n x ≡ x + 1) → Changes s e h
  Lessens : (less : (x : ℕ) → holds_after s.header.object e.word e.n x ≤ x) → Changes s e h

both : (s : Start) (h : List Entry) (i : ℕ) → ((j : ℕ) → j ≢ i → held s h j X ≡ 0) →
    ((j : ℕ) → j ≢ i → held s h j S ≡ 0) → (j : ℕ) (m : Mode) → j ≢ i → held s h j m ≡ 0
both s h i x y j X ne = x j ne
both s h i x y j S ne = y j ne

-- who could write finds that nobody else holds anything
could_write : (s : Start) (h : List Entry) (i n : ℕ) → Owned s h → could (counts s h) i X n ≡ true →
    is_lock s.header.object ≡ true → (j : ℕ) (m : Mode) → j ≢ i → held s h j m ≡ 0
could_write s h i n v t lock = by s.header.object t lock v.shared
  where
    k : Counts
    k = counts s h

    writes : (b : Bool) → is_seat (owner k) i ≡ b →
        cond b (ltb (k.held i X) MOST_READ_WRITE_HOLDS) (is_none_or (owner k) i && eqb (readers k) 0) ≡ true →
        (j : ℕ) (m : Mode) → j ≢ i → held s h j m ≡ 0
    writes true q u =
        let l : 0 < held s h i X = (owner_holds (counts s h) i (seat_is (owner (counts s h)) i q)).1 in
        both s h i (λ j ne. grind (arith, l, ne, v.one i j)) (λ j ne. grind (arith, l, ne, v.alone i j))
    writes false q u =
        let parts = and_parts (is_none_or (owner (counts s h)) i) (eqb (readers (counts s h)) 0) u in
        both s h i (others_own_nothing s h i v parts.0)
        (λ j ne. nobody_reads s h v (eqb-true _ 0 parts.1) j)

    by : (o : Object) → could_of o k i X n ≡ true → is_lock o ≡ true →
        total s.header.seats (λ j. held s h j S) ≤ most_shared o → (j : ℕ) (m : Mode) → j ≢ i →
        held s h j m ≡ 0
    by (Lock policy) u l few =
        let parts = and_parts (is_none_or (owner (counts s h)) i) (ltb (held s h i X) MOST_HOLDS) u in
        both s h i (others_own_nothing s h i v parts.0) (λ j ne. nobody_reads s h v (omega (arith, few)) j)
    by (ReadWrite policy) u l few = writes (is_seat (owner (counts s h)) i) refl u
    by _ u l few = absurd (cc)

-- who could read finds that nobody else owns, and that fewer read than may
could_read : (s : Start) (h : List Entry) (i n : ℕ) → Owned s h → could (counts s h) i S n ≡ true →
    is_lock s.header.object ≡ true → ((j : ℕ) → j ≢ i → held s h j X ≡ 0)
    × (total s.header.seats (λ j. held s h j S) < most_shared s.header.object)
could_read s h i n v t lock = by s.header.object t lock
  where
    by : (o : Object) → could_of o (counts s h) i S n ≡ true → is_lock o ≡ true →
        ((j : ℕ) → j ≢ i → held s h j X ≡ 0) × (total s.header.seats (λ j. held s h j S) < most_shared o)
    by (ReadWrite policy) u l =
        let parts = and_parts (is_none_or (owner (counts s h)) i)
        (ltb (readers (counts s h)) MOST_READ_WRITE_HOLDS) u in
        (others_own_nothing s h i v parts.0, ltb-true _ MOST_READ_WRITE_HOLDS parts.1)
    by _ u l = absurd (cc)

-- a lock is held once by each take
pub lock_holds : (o : Object) (n : ℕ) → is_lock o ≡ true → in_holds o n ≡ 1
lock_holds o n t = grind arith

takes_change : (s : Start) (e : Entry) (h : List Entry) (w : Word) → e.word ≡ w → Owned s h →
    is_lock s.header.object ≡ true
    → ((n x : ℕ) → holds_after s.header.object w n x ≡ x + in_holds s.header.object n) →
    could (counts s h) e.seat e.mode e.n ≡ true → Changes s e h
takes_change s e h w p v lock holds t = by e.mode refl t
  where
    one : (x : ℕ) → holds_after s.header.object e.word e.n x ≡ x + 1
    one x = ap (λ u. holds_after s.header.object u e.n x) p ∙ holds e.n x
        ∙ ap (λ n. x + n) (lock_holds s.header.object e.n lock)

    by : (m : Mode) → e.mode ≡ m → could (counts s h) e.seat m e.n ≡ true → Changes s e h
    by X q u = Writes q (could_write s h e.seat e.n v u lock)
    by S q u = let r = could_read s h e.seat e.n v u lock in Reads q r.0 r.1 one

changes : (s : Start) (e : Entry) (h : List Entry) → is_lock s.header.object ≡ true → Known s h e →
    Waits s h → Owned s h → Changes s e h
changes s e h lock known waits v = by e.word refl known
  where
    by : (w : Word) → e.word ≡ w → KnownBy s h e w → Changes s e h
    by word.Got p k = takes_change s e h word.Got p v lock (λ n x. refl) k.1
    by word.TryGot p k = takes_change s e h word.TryGot p v lock (λ n x. refl) k.1
    by word.Granted p k =
        let c = ready_could s h e.seat k.0 k.2 k.1.stands in
        let m : e.mode ≡ k.0.mode = ap (λ (x : Entry). x.mode) k.1.entry in
        let n : e.n ≡ k.0.n = ap (λ (x : Entry). x.n) k.1.entry in
        takes_change s e h word.Granted p v lock (λ n x. refl) (ap (λ x. could (counts s h) e.seat x e.n) m
        ∙ ap (could (counts s h) e.seat k.0.mode) n ∙ c)
    by word.Back p k =
        let b = placed (SavedIfBack s h) e.seat (line s h) k.0 waits.line k.1 k.2 in
        let c = ready_could s h e.seat k.0 k.3 k.1 in
        Writes (ap (λ (x : Entry). x.mode) k.4)
        (could_write s h e.seat k.0.n v (ap (λ m. could (counts s h) e.seat m k.0.n) (sym b.mode)
        ∙ c) lock)
    by word.Drained p k = absurd (semaphore_no_lock s.header.object k.1 lock)
    by _ p k = Lessens (λ x. omega (arith, ap (λ w. holds_after s.header.object w e.n x) p))

-- the holds after an entry
held_less : (s : Start) (e : Entry) (h : List Entry) →
    ((x : ℕ) → holds_after s.header.object e.word e.n x ≤ x) → (i : ℕ) (m : Mode) →
    held s (e ∷ h) i m ≤ held s h i m
held_less s e h less i m = grind (arith, less (held s h i m))

other_mode : (s : Start) (e : Entry) (h : List Entry) (i : ℕ) (m n : Mode) → e.mode ≡ m →
    same_mode m n ≡ false → held s (e ∷ h) i n ≡ held s h i n
other_mode s e h i m n p t = grind (arith, p, t)

pub total_less : (n : ℕ) (f g : ℕ → ℕ) → ((i : ℕ) → f i ≤ g i) → total n f ≤ total n g
total_less zero f g less = omega arith
total_less (suc n) f g less = omega (arith, total_less n f g less, less n)

-- nobody but the entry's seat has what nobody else has
own_alone : (s : Start) (e : Entry) (h : List Entry) (m : Mode) →
    ((j : ℕ) → j ≢ e.seat → held s h j m ≡ 0) → (i : ℕ) → 0 < held s (e ∷ h) i m → i ≡ e.seat
own_alone s e h m nobody i some = grind (arith, nat_tests, some, nobody i)

seats_next : (s : Start) (e : Entry) (h : List Entry) → e.seat < s.header.seats → Owned s h →
    (i : ℕ) (m : Mode) → s.header.seats ≤ i → held s (e ∷ h) i m ≡ 0
seats_next s e h seat v i m l = held_other s e h i m (λ q. absurd (omega (arith, seat, l, q)))
    ∙ v.seats i m l

shared_by_one : (s : Start) (e : Entry) (h : List Entry) → e.mode ≡ S → e.seat < s.header.seats →
    ((x : ℕ) → holds_after s.header.object e.word e.n x ≡ x + 1) →
    total s.header.seats (λ i. held s (e ∷ h) i S) ≡ total s.header.seats (λ i. held s h i S) + 1
shared_by_one s e h m seat one =
    let change = total_change s.header.seats (λ i. held s (e ∷ h) i S) (λ i. held s h i S) e.seat seat
    (λ i ne. held_other s e h i S (λ q. ne (sym q))) in
    grind (arith, nat_tests, change, m, one (held s h e.seat S))

owned_next : (s : Start) (e : Entry) (h : List Entry) → e.seat < s.header.seats → Owned s h →
    Changes s e h → Owned s (e ∷ h)
owned_next s e h seat v (Writes mode nobody) =
    record {
      one = λ i j a b. own_alone s e h X (λ x ne. nobody x X ne) i a
          ∙ sym (own_alone s e h X (λ x ne. nobody x X ne) j b);
      alone = λ i j a b. own_alone s e h X (λ x ne. nobody x X ne) i a
          ∙ sym (own_alone s e h S (λ x ne. nobody x S ne) j b);
      shared = subst (λ n. n ≤ most_shared s.header.object)
          (total_same s.header.seats _ _ (λ i. sym (other_mode s e h i X S mode refl))) v.shared;
      seats = seats_next s e h seat v;
    }
owned_next s e h seat v (Reads mode nobody few one) =
    record {
      one = λ i j a b. own_alone s e h X nobody i a ∙ sym (own_alone s e h X nobody j b);
      alone = λ i j a b. let p = own_alone s e h X nobody i a in
          let x = other_mode s e h i S X mode refl in
          let y = held_other s e h j S in
          grind (arith, a, b, p, x, y, v.alone i j);
      shared = omega (arith, shared_by_one s e h mode seat one, few);
      seats = seats_next s e h seat v;
    }
owned_next s e h seat v (Lessens less) =
    record {
      one = λ i j a b. v.one i j (was i X a) (was j X b);
      alone = λ i j a b. v.alone i j (was i X a) (was j S b);
      shared =
          let l = total_less s.header.seats _ _ (λ i. held_less s e h less i S) in omega (arith, v.shared, l);
      seats = seats_next s e h seat v;
    }
  where
    was : (i : ℕ) (m : Mode) → 0 < held s (e ∷ h) i m → 0 < held s h i m
    was i m a = omega (arith, held_less s e h less i m, a)

-- from a start of which it holds
pub owned_on : (s : Start) (h : List Entry) → is_lock s.header.object ≡ true → Waits s [] → Owned s [] →
    IsLegal s h → AreSeated s h → Owned s h
owned_on s [] lock waits v legal seats = v
owned_on s (e ∷ h) lock waits v legal seats =
    let w = owned_on s h lock waits v legal.1 seats.1 in
    owned_next s e h seats.0 w
    (changes s e h lock (known s h legal.0.0 e legal.0.1) (waits_from s h waits legal.1) w)

owned_from : (k : Header) (h : List Entry) → is_lock k.object ≡ true → IsLegal (opening k) h →
    AreSeated (opening k) h → Owned (opening k) h
owned_from k h lock legal seats =
    owned_on (opening k) h lock (opening_waits k)
    (record {
      one = λ i j a b. absurd (omega (arith, a));
      alone = λ i j a b. absurd (omega (arith, a));
      shared = omega (arith, total_nothing k.seats);
      seats = λ i m l. refl;
    })
    legal seats

-- a lock or read-write lock has one owner at most, nobody else reads beside it, and holds have their limits
pub is_owned : (s : Start) (h : List Entry) → is_lock s.header.object ≡ true → Waits s h → Owned s h →
    IsOwned s h
is_owned s h lock waits v =
    record {
      one = v.one;
      alone = v.alone;
      exclusive = λ i. ⊎_elim
          (λ l. waits.holds i l lock)
          (λ l. omega (arith, v.seats i X l)) (cases_below i s.header.seats);
      shared = v.shared;
    }

pub owned : (k : Header) (h : List Entry) → is_lock k.object ≡ true → IsLegal (opening k) h →
    AreSeated (opening k) h → IsOwned (opening k) h
owned k h lock legal seats =
    is_owned (opening k) h lock (waits k h legal) (owned_from k h lock legal seats)

-- who is away saved its holds
pub saved_from : (s : Start) (h : List Entry) → Waits s h → (i : ℕ) → is_away (phase s h i) ≡ true →
    IsSaved s h i
saved_from s h v i t =
    by (place_of i (line s h)) (sleeps_below s.header.conditions s h i) refl refl t
  where
    as_saved : Saved s h i → IsSaved s h i
    as_saved r =
        record { nothing = r.nothing; some = r.some; most = r.most }

    by : (o : Option Arrival) (b : Bool) → place_of i (line s h) ≡ o →
        sleeps_below s.header.conditions s h i ≡ b → is_away (phase_by o b) ≡ true → IsSaved s h i
    by (Some a) b p q u =
        let r = placed (SavedIfBack s h) i (line s h) a v.line p u in
        as_saved (subst (Saved s h) (place_once i (line s h) a p).0 r.saved)
    by None true p q u =
        let at = sleeps_at s.header.conditions s h i q in
        as_saved (v.sleepers at.0 i at.2).saved
    by None false p q u = absurd (cc)

pub saved_away : (k : Header) (h : List Entry) → IsLegal (opening k) h → (i : ℕ) →
    is_away (phase (opening k) h i) ≡ true → IsSaved (opening k) h i
saved_away k h legal i t = saved_from (opening k) h (waits k h legal) i t
