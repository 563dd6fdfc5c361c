-- What a take, a give and the like make of a read-write lock's hooks.
use Rattle.std.proofs.Common.{◌≡◌, ◌≢◌, ⊎_elim, ℕ, ◌+◌, ◌-◌, ◌<◌, ◌≤◌, true, List, length, length-set, get_or, slice_index, Option, Some, None, refl, ap, ◌∙◌, sym, subst, arith, eqb-true, get_or-set_other}
use Rattle.std.proofs.Math.ListN.{set}
use Rattle.std.proofs.lemmas.Bool.{cases_eq, cases_lt}
use Rattle.std.proofs.lemmas.Grind.{get_or-set_at, get_or_default_zero}
use Rattle.read_write.specs.Below.{Mode, X, S, holds_with, took, gave_back, restored, is_seat, MOST_READ_WRITE_HOLDS, Counts, in_holds, IsRestorable, is_owned, is_owner_in, Owns}
use Rattle.history.proofs.Entering.{seat_is}
use Rattle.frame.proofs.Owners.{owns_took, owns_gave, owns_restored, shared_kept, exclusive_kept, changed_own, changed_other, some_owned, owned_most, seated_some, no_owner}
use Rattle.frame.proofs.Tables.{table_total, table_set, in_total, past_table}
use Rattle.read_write.specs.State.{State, MatchesFor}
use Rattle.read_write.proofs.Reading.{IsSound, MayWrite, could_is, may_write}

-- the states
abbrev pub owned_by : State → Option ℕ → ℕ → State
owned_by s o writes =
    record { policy = s.policy; owner = o; writes = writes; reads = s.reads; readers = s.readers }

abbrev pub with_reads : State → ℕ → ℕ → ℕ → State
with_reads s i reads readers =
    record {
      policy = s.policy;
      owner = s.owner;
      writes = s.writes;
      reads = set s.reads i reads;
      readers = readers;
    }

-- a write hold more
pub sound_wrote : (s : State) (i : ℕ) → IsSound s → MayWrite s i → i < length s.reads →
    IsSound (owned_by s (Some i) (s.writes + 1))
sound_wrote s i t may seat =
    let below = may.below in
    record {
      owned = some_owned MOST_READ_WRITE_HOLDS i (s.writes + 1) (omega arith) (omega arith);
      seated = seated_some i (length s.reads) seat;
      summed = t.summed;
    }

pub stands_wrote : (s : State) (k : Counts) → IsSound s → MatchesFor s k → (i n : ℕ) → MayWrite s i →
    i < k.seats → MatchesFor (owned_by s (Some i) (s.writes + 1)) (took k i X n)
stands_wrote s k t h i n may seat =
    record {
      object = h.object;
      seats = h.seats;
      owns = owns_took MOST_READ_WRITE_HOLDS s.owner s.writes k i n t.owned h.owns (rw h.object refl) seat may.admitted;
      shared = λ j. shared_kept i (λ had. had + in_holds k.object n) k.held j ∙ h.shared j;
    }

-- a change of the read holds of one seat
shared_changed : (reads : List ℕ) (i x : ℕ) (change : ℕ → ℕ) (was : ℕ → Mode → ℕ) → i < length reads →
    ((j : ℕ) → was j S ≡ slice_index reads j) → x ≡ change (slice_index reads i) → (j : ℕ) →
    holds_with i S change was j S ≡ slice_index (set reads i x) j
shared_changed reads i x change was p h e j = ⊎_elim same other (cases_eq i j)
  where
    same : i ≡ j → holds_with i S change was j S ≡ slice_index (set reads i x) j
    same q =
        let now : slice_index (set reads i x) j ≡ x = get_or-set_at reads i j x 0 (sym q) p in
        let moved : change (slice_index reads j) ≡ change (slice_index reads i) =
        ap (λ z. change (slice_index reads z)) (sym q) in
        changed_own i S change was j q ∙ ap change (h j) ∙ moved ∙ sym e ∙ sym now

    other : (i ≡ j → ⊥) → holds_with i S change was j S ≡ slice_index (set reads i x) j
    other n =
        let ne : j ≢ i = λ q. n (sym q) in
        changed_other i S change was j ne ∙ h j ∙ sym (get_or-set_other reads i j x 0 ne)

sound_reads : (s : State) (i reads readers : ℕ) → IsSound s → i < length s.reads →
    readers + slice_index s.reads i ≡ s.readers + reads → IsSound (with_reads s i reads readers)
sound_reads s i reads readers t seat e =
    let all = t.summed in
    let now : table_total (set s.reads i reads) + slice_index s.reads i ≡ table_total s.reads + reads =
    table_set s.reads i reads seat in
    let P : ℕ → Type 0 = λ n. is_owner_in n s.owner ≡ true in
    record {
      owned = t.owned;
      seated = subst P (sym (length-set s.reads i reads)) t.seated;
      summed = omega (arith, all, now, e);
    }

-- the same by the place and the number that the code reads
pub same_place : (s : State) (i at had : ℕ) → at ≡ i → had ≡ get_or s.reads at had → i < length s.reads →
    (f : ℕ → ℕ) (readers : ℕ) → with_reads s i (f (slice_index s.reads i)) readers
    ≡ with_reads s at (f had) readers
same_place s i at had q e p f readers =
    let within : at < length s.reads = omega (arith, q, p) in
    let read : had ≡ slice_index s.reads at = e ∙ get_or_default_zero s.reads at had within in
    let now : slice_index s.reads i ≡ had = sym (read ∙ ap (slice_index s.reads) q) in
    ap (λ a. with_reads s a (f (slice_index s.reads i)) readers) (sym q)
    ∙ ap (λ x. with_reads s at (f x) readers) now

pub room_for_read : (s : State) (i at had : ℕ) → IsSound s → at ≡ i → had ≡ get_or s.reads at had →
    i < length s.reads → s.readers < MOST_READ_WRITE_HOLDS → had + 1 ≤ MOST_READ_WRITE_HOLDS
room_for_read s i at had t q e p below =
    let within : at < length s.reads = omega (arith, q, p) in
    let read : had ≡ slice_index s.reads at = e ∙ get_or_default_zero s.reads at had within in
    let part : slice_index s.reads at ≤ table_total s.reads = in_total s.reads at in
    let all = t.summed in
    omega (arith, read, part, all, below)

-- a read hold more
pub sound_read : (s : State) (i : ℕ) → IsSound s → i < length s.reads →
    IsSound (with_reads s i (slice_index s.reads i + 1) (s.readers + 1))
sound_read s i t seat = sound_reads s i (slice_index s.reads i + 1) (s.readers + 1) t seat (omega arith)

pub stands_read : (s : State) (k : Counts) → MatchesFor s k → (i n : ℕ) → i < length s.reads →
    MatchesFor (with_reads s i (slice_index s.reads i + 1) (s.readers + 1)) (took k i S n)
stands_read s k h i n seat =
    let one : in_holds k.object n ≡ 1 = rw h.object refl in
    let more : ℕ → ℕ = λ had. had + in_holds k.object n in
    let now : slice_index s.reads i + 1 ≡ more (slice_index s.reads i) = omega (arith, one) in
    record {
      object = h.object;
      seats = h.seats ∙ sym (length-set s.reads i (slice_index s.reads i + 1));
      owns = record { held = λ j. exclusive_kept i more k.held j ∙ h.owns.held j; seat = h.owns.seat };
      shared = shared_changed s.reads i (slice_index s.reads i + 1) more k.held seat h.shared now;
    }

-- a read hold less
pub sound_read_less : (s : State) (i : ℕ) → IsSound s → i < length s.reads → 0 < slice_index s.reads i →
    IsSound (with_reads s i (slice_index s.reads i - 1) (s.readers - 1))
sound_read_less s i t seat some =
    let all = t.summed in
    let part : slice_index s.reads i ≤ table_total s.reads = in_total s.reads i in
    sound_reads s i (slice_index s.reads i - 1) (s.readers - 1) t seat (omega arith)

pub stands_read_less : (s : State) (k : Counts) → MatchesFor s k → (i n : ℕ) → i < length s.reads →
    MatchesFor (with_reads s i (slice_index s.reads i - 1) (s.readers - 1)) (gave_back k i S n)
stands_read_less s k h i n seat =
    let one : in_holds k.object n ≡ 1 = rw h.object refl in
    let less : ℕ → ℕ = λ had. had - in_holds k.object n in
    let now : slice_index s.reads i - 1 ≡ less (slice_index s.reads i) =
    ap (λ x. slice_index s.reads i - x) (sym one) in
    record {
      object = h.object;
      seats = h.seats ∙ sym (length-set s.reads i (slice_index s.reads i - 1));
      owns = record { held = λ j. exclusive_kept i less k.held j ∙ h.owns.held j; seat = h.owns.seat };
      shared = shared_changed s.reads i (slice_index s.reads i - 1) less k.held seat h.shared now;
    }

-- who reads is a seat, and the readers are some
pub reader_seated : (s : State) (i : ℕ) → 0 < slice_index s.reads i → i < length s.reads
reader_seated s i some = ⊎_elim (λ p. p) past (cases_lt i (length s.reads))
  where
    past : length s.reads ≤ i → i < length s.reads
    past p =
        let none : slice_index s.reads i ≡ 0 = past_table s.reads i p in
        absurd (omega (arith, some, none))

pub readers_some : (s : State) (i : ℕ) → IsSound s → 0 < slice_index s.reads i → 0 < s.readers
readers_some s i t some =
    let all = t.summed in
    let part : slice_index s.reads i ≤ table_total s.reads = in_total s.reads i in
    omega arith

-- a write hold less
owner_known : (s : State) (k : Counts) → MatchesFor s k → (i : ℕ) → is_seat s.owner i ≡ true →
    Owns (Some i) s.writes k
owner_known s k h i u =
    let P : Option ℕ → Type 0 = λ o. Owns o s.writes k in
    subst P (seat_is s.owner i u) h.owns

pub sound_write_less : (s : State) (i : ℕ) → IsSound s → is_seat s.owner i ≡ true → 0 < s.writes - 1 →
    IsSound (owned_by s s.owner (s.writes - 1))
sound_write_less s i t u some =
    let most : s.writes ≤ MOST_READ_WRITE_HOLDS = owned_most MOST_READ_WRITE_HOLDS s.owner s.writes t.owned in
    let P : Option ℕ → Type 0 = λ o. is_owned MOST_READ_WRITE_HOLDS o (s.writes - 1) ≡ true in
    let owned : is_owned MOST_READ_WRITE_HOLDS (Some i) (s.writes - 1) ≡ true =
    some_owned MOST_READ_WRITE_HOLDS i (s.writes - 1) some (omega arith) in
    record { owned = subst P (sym (seat_is s.owner i u)) owned; seated = t.seated; summed = t.summed }

pub stands_write_less : (s : State) (k : Counts) → MatchesFor s k → (i n : ℕ) → is_seat s.owner i ≡ true →
    MatchesFor (owned_by s s.owner (s.writes - 1)) (gave_back k i X n)
stands_write_less s k h i n u =
    let P : Option ℕ → Type 0 = λ o. Owns o (s.writes - 1) (gave_back k i X n) in
    let owns : Owns (Some i) (s.writes - 1) (gave_back k i X n) =
    owns_gave s.writes k i n (owner_known s k h i u) (rw h.object refl) in
    record {
      object = h.object;
      seats = h.seats;
      owns = subst P (sym (seat_is s.owner i u)) owns;
      shared = λ j. shared_kept i (λ had. had - in_holds k.object n) k.held j ∙ h.shared j;
    }

-- all write holds again
pub most_restored : (s : State) (k : Counts) → MatchesFor s k → (i holds : ℕ) → IsRestorable k i holds →
    holds ≤ MOST_READ_WRITE_HOLDS
most_restored s k h i holds r = rw h.object at r.most

pub sound_restored : (s : State) (k : Counts) → IsSound s → MatchesFor s k → (i holds : ℕ) →
    IsRestorable k i holds → IsSound (owned_by s (Some i) holds)
sound_restored s k t h i holds r =
    let P : ℕ → Type 0 = λ n. i < n in
    record {
      owned = some_owned MOST_READ_WRITE_HOLDS i holds r.some (most_restored s k h i holds r);
      seated = seated_some i (length s.reads) (subst P h.seats r.seat);
      summed = t.summed;
    }

pub stands_restored : (s : State) (k : Counts) → IsSound s → MatchesFor s k → (i holds : ℕ) →
    IsRestorable k i holds → MatchesFor (owned_by s (Some i) holds) (restored k i holds)
stands_restored s k t h i holds r =
    let may : MayWrite s i = may_write s i t (sym (could_is s k t h i X 1) ∙ r.could) in
    let none : s.owner ≡ None =
    no_owner MOST_READ_WRITE_HOLDS s.owner s.writes i t.owned may.admitted (sym (h.owns.held i) ∙ r.none_held) in
    let Q : Option ℕ → Type 0 = λ o. is_owned MOST_READ_WRITE_HOLDS o s.writes ≡ true in
    let zero : s.writes ≡ 0 = eqb-true s.writes 0 (subst Q none t.owned) in
    let P : Option ℕ → Type 0 = λ o. Owns o s.writes k in
    let R : ℕ → Type 0 = λ w. Owns None w k in
    record {
      object = h.object;
      seats = h.seats;
      owns = owns_restored k i holds (subst R zero (subst P none h.owns)) r.seat;
      shared = λ j. shared_kept i (λ had. had + holds) k.held j ∙ h.shared j;
    }
