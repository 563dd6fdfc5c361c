-- The sum of a table with a number for each seat.
use Rattle.std.proofs.Common.{◌≡◌, ◌≢◌, ⊎_elim, ℕ, zero, suc, ◌+◌, ◌<◌, ◌≤◌, List, length, length-set, get_or, slice_index, refl, arith, get_or-set_same, get_or-set_other}
use Rattle.std.proofs.Math.ListN.{set, replicate, length-replicate, get_or-eq_default}
use Rattle.std.proofs.lemmas.Bool.{cases_lt}
use Rattle.std.proofs.lemmas.List.{get_or-replicate}
use Rattle.history.specs.Counts.{total}
use Rattle.history.proofs.Sums.{total_change}
use Rattle.history.proofs.Times.{total_part}

abbrev pub table_total : List ℕ → ℕ
table_total xs = total (length xs) (slice_index xs)

-- a seat past the table has nothing
pub past_table : (xs : List ℕ) (i : ℕ) → length xs ≤ i → slice_index xs i ≡ 0
past_table xs i p = get_or-eq_default xs 0 p

pub in_total : (xs : List ℕ) (i : ℕ) → slice_index xs i ≤ table_total xs
in_total xs i = ⊎_elim within past (cases_lt i (length xs))
  where
    within : i < length xs → slice_index xs i ≤ table_total xs
    within p = total_part (length xs) (slice_index xs) i p

    past : length xs ≤ i → slice_index xs i ≤ table_total xs
    past p =
        let e : slice_index xs i ≡ 0 = past_table xs i p in
        omega arith

pub table_empty : (xs : List ℕ) (sum : ℕ) → sum ≡ table_total xs → sum ≡ 0 → (i : ℕ) → slice_index xs i ≡ 0
table_empty xs sum e z i = omega (arith, in_total xs i)

-- one number more or less
pub table_set : (xs : List ℕ) (i x : ℕ) → i < length xs →
    table_total (set xs i x) + slice_index xs i ≡ table_total xs + x
table_set xs i x p =
    let same : get_or (set xs i x) i 0 ≡ x = get_or-set_same xs i x 0 p in
    let other : (j : ℕ) → j ≢ i → slice_index (set xs i x) j ≡ slice_index xs j =
    λ j ne. get_or-set_other xs i j x 0 ne in
    let change = total_change (length xs) (slice_index (set xs i x)) (slice_index xs) i p other in
    let by : total (length xs) (slice_index (set xs i x)) + slice_index xs i ≡ table_total xs + x =
    rw same at change in
    rw (length-set xs i x) by

pub table_zeros : (n : ℕ) → table_total (replicate n 0) ≡ 0
table_zeros n = none (length (replicate n 0)) (slice_index (replicate n 0)) (λ i. zeros i)
  where
    none : (m : ℕ) (f : ℕ → ℕ) → ((i : ℕ) → f i ≡ 0) → total m f ≡ 0
    none zero f h = refl
    none (suc m) f h =
        let a : total m f ≡ 0 = none m f h in
        let b : f m ≡ 0 = h m in
        omega arith

    zeros : (i : ℕ) → slice_index (replicate n 0) i ≡ 0
    zeros i =
        ⊎_elim (λ p. get_or-replicate n i 0 0 p)
        (λ p. get_or-eq_default (replicate n 0) 0 (omega (arith, p, length-replicate {A = ℕ}))) (cases_lt i n)
