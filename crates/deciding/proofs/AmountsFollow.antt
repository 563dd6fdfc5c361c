-- That the numbers of permits and of a latch stand for one more entry.
use Rattle.std.proofs.Common.{◌≡◌, ◌⊎◌, inl, inr, ℕ, ◌+◌, ◌-◌, ◌≤◌, List, [], ◌∷◌, ℤ, refl, ap, ◌∙◌, sym, subst, arith, FitsSigned, nat_abs, pos, ◌-ℤ◌, ◌+ℤ◌, ◌≤ℤ◌}
use Rattle.std.specs.Int.{w32, w128}
use Rattle.std.proofs.lemmas.Int.{ints}
use Rattle.deciding.specs.Below.{Entry, Word, S, Object, Lock, ReadWrite, Semaphore, Latch, Base, based, seat_of, counted_after, free, free_after, total, AreCounted, AreHeld, IsGood, IsInRange, IsOpening, created, is_semaphore, opening_count, most_shared, Start}
use Rattle.history.specs.declared.entry.Word.TheVariants as word
use Rattle.history.proofs.Permits.{created_fits}
use Rattle.history.proofs.SmallBases.{few_in_all}
use Rattle.deciding.specs.declared.amounts.Amounts.{Amounts}
use Rattle.deciding.specs.Amounts.{AreAmounts}

less_bound : (z : ℤ) (n : ℕ) → nat_abs (z -ℤ pos n) ≤ nat_abs z + n
less_bound z n = omega (arith, ints)

more_bound : (z : ℤ) (n : ℕ) → nat_abs (z +ℤ pos n) ≤ nat_abs z + n
more_bound z n = omega (arith, ints)

free_more : (w : Word) (n : ℕ) (z : ℤ) → nat_abs (free_after w n z) ≤ nat_abs z + n
free_more word.Got n z = less_bound z n
free_more word.TryGot n z = less_bound z n
free_more word.Granted n z = less_bound z n
free_more word.Drained n z = less_bound z n
free_more word.Gave n z = more_bound z n
free_more _ n z = omega arith

pub amounts_follow : (s : Start) (e : Entry) (h : List Entry) (old new : Amounts) (count : ℕ) →
    AreAmounts s h old → e.n ≤ 4294967295 → new.free ≡ free_after e.word e.n old.free →
    FitsSigned w128 new.free → new.counted ≡ old.counted + count →
    ((n : ℕ) → n + count ≡ counted_after e.word n) → count ≤ 1 → AreAmounts s (e ∷ h) new
amounts_follow s e h old new count st amount fr fits co cn one =
    let free_bound : nat_abs (free_after e.word e.n old.free) ≤ nat_abs old.free + e.n =
    free_more e.word e.n old.free in
    record {
      is_free = fr ∙ ap (free_after e.word e.n) st.is_free;
      is_counted = co ∙ cn old.counted ∙ ap (counted_after e.word) st.is_counted;
      free_bound = let b : nat_abs new.free ≤ nat_abs old.free + e.n = rw fr free_bound in
          omega (arith, b, st.free_bound, amount);
      free_fits = fits;
      counted_bound = omega (arith, co, one, st.counted_bound);
    }

-- The amounts that a base leaves are small.
few_free : (c f : ℤ) → FitsSigned w32 c → (pos 0 ≤ℤ f) ⊎ (c ≤ℤ f) → f ≤ℤ pos 2147483647 →
    nat_abs f ≤ 2147483648
few_free c f fits (inl low) high = omega (arith, ints)
few_free c f fits (inr low) high = omega (arith, ints)

none_free : (c : ℤ) (u t : ℕ) → c ≡ pos 0 → u ≡ 0 → t ≤ 65535 →
    nat_abs ((c +ℤ pos u) -ℤ pos t) ≤ 2147483648
none_free c u t z n few = omega (arith, ints)

small_free : (b : Base) → IsGood b → IsInRange b.header → (o : Object) → b.header.object ≡ o → AreHeld o b →
    AreCounted o b → nat_abs (free (based b) []) ≤ 2147483648
small_free b good range (Lock p) q v n =
    none_free _ _ _ (ap created q) n.0
    (let l = v.shared in let m = ap most_shared q in omega (arith, l, m))
small_free b good range (ReadWrite p) q v n =
    none_free _ _ _ (ap created q) n.0
    (let l = v.shared in let m = ap most_shared q in omega (arith, l, m))
small_free b good range (Semaphore p c) q v n =
    few_free c (free (based b) [])
    (subst (FitsSigned w32) (ap created q) (created_fits b.header range (ap is_semaphore q))) v.lowest
    v.highest
small_free b good range (Latch c) q v n =
    none_free _ _ _ (ap created q) n.0
    (let t = few_in_all b.header.seats (λ i. (seat_of b i).shared) 0 (λ i l. (let z =
    v i S in omega (arith, z)))
    in omega (arith, t))

small_count : (o : Object) (conditions : ℕ) → IsOpening o conditions → opening_count o ≤ 2147483647
small_count (Lock p) c r = omega arith
small_count (ReadWrite p) c r = omega arith
small_count (Semaphore p n) c r = omega arith
small_count (Latch n) c r = let l = r.1 in omega (arith, l)

pub base_amounts : (b : Base) (held : ℕ) (a : Amounts) → IsInRange b.header → IsGood b →
    held ≡ total b.header.seats (λ i. (seat_of b i).shared) →
    a.free ≡ (created b.header.object +ℤ pos b.unheld) -ℤ pos held → FitsSigned w128 a.free →
    a.counted ≡ opening_count b.header.object - b.count → AreAmounts (based b) [] a
base_amounts b held a range good is free_is fits count =
    let same : a.free ≡ free (based b) [] =
    free_is ∙ ap (λ n. (created b.header.object +ℤ pos b.unheld) -ℤ pos n) is in
    let small = small_free b good range b.header.object refl good.held good.counted in
    let few = small_count b.header.object b.header.conditions range.opening in
    record {
      is_free = same;
      is_counted = count;
      free_bound = let f : nat_abs a.free ≤ 2147483648 = subst (λ z. nat_abs z ≤ 2147483648) (sym same)
          small in
          omega (arith, f);
      free_fits = fits;
      counted_bound = omega (arith, count, few);
    }
