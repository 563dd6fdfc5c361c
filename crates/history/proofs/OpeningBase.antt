-- The base of an object as it is opened: it is the opening, and it is good.
use Rattle.std.proofs.Common.{◌≡◌, inr, ⊎_elim, ℕ, zero, suc, ◌-◌, [], map, get_or, None, refl, ap, ◌∙◌, sym, subst, arith, ℤ, pos, ◌+ℤ◌, ◌-ℤ◌, ◌≤ℤ◌}
use Rattle.std.specs.List.{AllByRecursion}
use Rattle.std.proofs.lemmas.Int.{ints}
use Rattle.std.proofs.lemmas.List.{get_or_past}
use Rattle.history.specs.Prelude.{MOST_AMOUNT, SeatBase, Sleeper, Mode, X, S, Header, Object, Lock, ReadWrite, Semaphore, Latch, based, each_below, either, holds_of, nothing, opening_base, or_awake, seat_of, sleep_below, sleep_on, sleepers_of, free, total, AreCounted, AreHeld, IsGood, IsModest, SleepsWell, IsInRange, created, is_lock, is_semaphore, opening_count, IsOwned, Start, opening, IsOneWait}
use Rattle.history.proofs.Folding.{get_or-each, length-each}
use Rattle.history.proofs.OneOwner.{cases_below, owned}
use Rattle.history.proofs.OneWait.{one_wait}
use Rattle.history.proofs.Permits.{free_at_most}
use Rattle.history.proofs.Sums.{total_nothing, total_same}

get_or-same : {A : Type 0} (n : ℕ) (d : A) (i : ℕ) → get_or (each_below n (λ i. d)) i d ≡ d
get_or-same n d i =
    ⊎_elim (λ l. get_or-each n (λ i. d) i d l)
    (λ l. get_or_past (each_below n (λ i. d)) i d
    (let e = length-each n (λ (i : ℕ). d) in omega (arith, e, l)))
    (cases_below i n)

module _ (k : Header) where
  pub no_seat : (i : ℕ) → seat_of (opening_base k) i ≡ nothing
  no_seat i = get_or-same k.seats nothing i

  no_sleepers : (c : ℕ) → sleepers_of (opening_base k) c ≡ []
  no_sleepers c = get_or-same k.conditions [] c

  pub nothing_summed : (f : SeatBase → ℕ) → f nothing ≡ 0 →
      total k.seats (λ i. f (seat_of (opening_base k) i)) ≡ 0
  nothing_summed f z =
      total_same k.seats (λ i. f (seat_of (opening_base k) i)) (λ i. 0) (λ i. ap f (no_seat i) ∙ z)
      ∙ total_nothing k.seats

  nothing_held : (i : ℕ) (m : Mode) → holds_of (seat_of (opening_base k) i) m ≡ 0
  nothing_held i X = ap (λ (x : SeatBase). x.exclusive) (no_seat i)
  nothing_held i S = ap (λ (x : SeatBase). x.shared) (no_seat i)

  nobody_asleep : (n i : ℕ) → sleep_below n (opening_base k) i ≡ None
  nobody_asleep zero i = refl
  nobody_asleep (suc n) i =
      ap (λ xs. either (sleep_on n i xs) (sleep_below n (opening_base k) i)) (no_sleepers n)
      ∙ nobody_asleep n i

  all_free : (t : ℕ) (c : ℤ) → t ≡ 0 → (c +ℤ pos 0) -ℤ pos t ≡ c
  all_free t c z = omega (arith, ints)

  none_counted : (n : ℕ) → n - n ≡ 0
  none_counted n = omega arith

  pub based_opening : based (opening_base k) ≡ opening k
  based_opening =
      λ j. record {
        header = k;
        held = λ i m. nothing_held i m j;
        unheld = 0;
        free = all_free _ (created k.object) (nothing_summed (λ x. x.shared) refl) j;
        counted = none_counted (opening_count k.object) j;
        line = [];
        sleepers = λ c. map (λ (x : Sleeper). x.seat) (no_sleepers c j);
        last_sleep = λ i. or_awake (nobody_asleep k.conditions i j);
        calls = nothing_summed (λ x. x.calls) refl j;
      }

  counted_opening : (o : Object) → k.object ≡ o → AreCounted o (opening_base k)
  counted_opening (Lock p) q = (refl, ap opening_count q)
  counted_opening (ReadWrite p) q = (refl, ap opening_count q)
  counted_opening (Semaphore p c) q = (omega arith, ap opening_count q)
  counted_opening (Latch c) q = (refl, let e = ap opening_count q in omega (arith, e))

  held_opening : IsInRange k → (o : Object) → k.object ≡ o → AreHeld o (opening_base k)
  held_opening range (Lock p) q =
      subst (λ s. IsOwned s []) (sym based_opening) (owned k [] (ap is_lock q) tt tt)
  held_opening range (ReadWrite p) q =
      subst (λ s. IsOwned s []) (sym based_opening) (owned k [] (ap is_lock q) tt tt)
  held_opening range (Semaphore p c) q =
      record {
        exclusive = λ i. nothing_held i X;
        shared = λ i. (let z = nothing_held i S in omega (arith, z));
        lowest = inr (at_least c (free (based (opening_base k)) [])
            (ap (λ (s : Start). s.free) based_opening ∙ ap created q));
        highest = subst (λ (s : Start). s.free ≤ℤ pos MOST_AMOUNT) (sym based_opening)
            (free_at_most k [] range (ap is_semaphore q) tt);
      }
    where
      at_least : (c f : ℤ) → f ≡ c → c ≤ℤ f
      at_least c f e = omega (arith, ints)
  held_opening range (Latch c) q = nothing_held

  pub opening_good : IsInRange k → IsGood (opening_base k)
  opening_good range =
      record {
        entries = omega arith;
        seats = length-each k.seats (λ i. nothing);
        conditions = length-each k.conditions (λ c. []);
        calls = let z = nothing_summed (λ x. x.calls) refl in omega (arith, z);
        counted = counted_opening k.object refl;
        held = held_opening range k.object refl;
        once = subst (λ s. IsOneWait s []) (sym based_opening) (one_wait k [] tt);
        line = tt;
        sleepers = λ c. subst (AllByRecursion (SleepsWell (opening_base k) c)) (sym (no_sleepers c)) tt;
      }

  pub opening_modest : IsModest (opening_base k)
  opening_modest t = (omega arith, λ i. let z = nothing_held i S in omega (arith, z))
