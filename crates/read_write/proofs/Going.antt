-- Who could take after a change of a read-write lock's hooks.
use Rattle.std.proofs.Common.{◌≡◌, ◌≢◌, ◌⊎◌, ⊎_elim, inl, inr, ℕ, ◌+◌, ◌-◌, ◌<◌, ◌≤◌, Bool, true, false, ◌&&◌, ◌||◌, cond, ltb, eqb, slice_index, length, Option, Some, None, refl, ◌∙◌, sym, subst, arith, eqb-true, eq-eqb, ne_eqb, le-ltb, ltb-false}
use Rattle.std.proofs.lemmas.Bool.{cases_eq}
use Rattle.read_write.specs.Below.{Mode, X, S, took, gave_back, given, restored, could, is_seat, is_none_or, MOST_READ_WRITE_HOLDS, Counts, Object, take_answer, take_answer_of, give_answer, open_where, IsRestorable, holds_of}
use Rattle.frame.specs.declared.hooks.Taken.{Taken}
use Rattle.frame.specs.declared.hooks.Taken.TheVariants as take_answers
use Rattle.std.proofs.Math.Bool.{and-false}
use Rattle.history.proofs.Entering.{seat_is}
use Rattle.frame.proofs.Owners.{others_not}
use Rattle.read_write.specs.State.{State, MatchesFor}
use Rattle.read_write.specs.inner.{could_by}
use Rattle.read_write.proofs.Reading.{IsSound, MayWrite, MayRead, could_is, owner_of, readers_of}
use Rattle.read_write.proofs.Changing.{owned_by, with_reads, sound_wrote, stands_wrote, sound_read, stands_read, sound_read_less, stands_read_less, sound_write_less, stands_write_less, sound_restored, stands_restored, reader_seated, readers_some}

-- beside an owner nobody else could
alone_by : (i w r j : ℕ) (m : Mode) → j ≢ i → could_by (Some i) w r j m ≡ false
alone_by i w r j X ne = rw (others_not i j ne) refl
alone_by i w r j S ne = rw (others_not i j ne) refl

owned_alone : (o : Option ℕ) (i w r j : ℕ) (m : Mode) → is_seat o i ≡ true → j ≢ i →
    could_by o w r j m ≡ false
owned_alone o i w r j m u ne =
    let P : Option ℕ → Type 0 = λ q. could_by q w r j m ≡ false in
    subst P (sym (seat_is o i u)) (alone_by i w r j m ne)

none_other : (o : Option ℕ) (i j : ℕ) → is_none_or o i ≡ true → j ≢ i → is_seat o j ≡ false
none_other None i j t ne = refl
none_other (Some q) i j t ne =
    let e : q ≡ i = eqb-true q i t in
    rw e (others_not i j ne)

-- who takes a write hold could before, and its reads are as many
writer_as_before : (o : Option ℕ) (w r i j : ℕ) (m : Mode) → could_by o w r i X ≡ true →
    is_none_or o i ≡ true → could_by o w r j m ≡ false → could_by (Some i) (w + 1) r j m ≡ false
writer_as_before o w r i j m c t f =
    ⊎_elim (λ e. same m e f) (λ ne. alone_by i (w + 1) r j m ne) (cases_eq j i)
  where
    same : (m : Mode) → j ≡ i → could_by o w r j m ≡ false → could_by (Some i) (w + 1) r j m ≡ false
    same X e g =
        let P : ℕ → Type 0 = λ z. could_by o w r z X ≡ false in
        let no : could_by o w r i X ≡ false = subst P e g in
        cc
    same S e g =
        let P : ℕ → Type 0 = λ z. could_by o w r z S ≡ false in
        let no : could_by o w r i S ≡ false = subst P e g in
        let full : ltb r MOST_READ_WRITE_HOLDS ≡ false = rw t at no in
        rw full (and-false (eqb i j))

-- beside a reader nobody else could write
reader_alone : (o : Option ℕ) (w r i j : ℕ) → is_none_or o i ≡ true → j ≢ i → could_by o w (r + 1) j X ≡ false
reader_alone o w r i j t ne =
    let some : eqb (r + 1) 0 ≡ false = ne_eqb (r + 1) 0 (λ e. omega (arith, e)) in
    rw (none_other o i j t ne) (rw some (and-false (is_none_or o j)))

full_alone : (o : Option ℕ) (w r j : ℕ) → r ≡ MOST_READ_WRITE_HOLDS → could_by o w r j S ≡ false
full_alone o w r j e =
    let full : ltb r MOST_READ_WRITE_HOLDS ≡ false = le-ltb r MOST_READ_WRITE_HOLDS (omega (arith, e)) in
    rw full (and-false (is_none_or o j))

-- a read hold more makes nobody able
reader_as_before : (o : Option ℕ) (w r j : ℕ) (m : Mode) → could_by o w r j m ≡ false →
    could_by o w (r + 1) j m ≡ false
reader_as_before o w r j X f = by (is_seat o j) (ltb (holds_of o w j) MOST_READ_WRITE_HOLDS) f
  where
    by : (b a : Bool) → cond b a (is_none_or o j && eqb r 0) ≡ false →
        cond b a (is_none_or o j && eqb (r + 1) 0) ≡ false
    by true a g = g
    by false a g =
        let some : eqb (r + 1) 0 ≡ false = ne_eqb (r + 1) 0 (λ e. omega (arith, e)) in
        rw some (and-false (is_none_or o j))
reader_as_before o w r j S f = by (is_none_or o j) f
  where
    by : (b : Bool) → (b && ltb r MOST_READ_WRITE_HOLDS) ≡ false → (b && ltb (r + 1) MOST_READ_WRITE_HOLDS) ≡ false
    by true g =
        let full : MOST_READ_WRITE_HOLDS ≤ r = ltb-false r MOST_READ_WRITE_HOLDS g in
        le-ltb (r + 1) MOST_READ_WRITE_HOLDS (omega (arith, full))
    by false g = refl

-- a read hold less makes somebody able at the last one and at the limit alone
reader_less : (o : Option ℕ) (w r j : ℕ) (m : Mode) → (r ≡ 1 → ⊥) → (r ≡ MOST_READ_WRITE_HOLDS → ⊥) → 0 < r →
    r ≤ MOST_READ_WRITE_HOLDS → could_by o w r j m ≡ false → could_by o w (r - 1) j m ≡ false
reader_less o w r j X last full some most f = by (is_seat o j) (ltb (holds_of o w j) MOST_READ_WRITE_HOLDS) f
  where
    by : (b a : Bool) → cond b a (is_none_or o j && eqb r 0) ≡ false →
        cond b a (is_none_or o j && eqb (r - 1) 0) ≡ false
    by true a g = g
    by false a g =
        let left : eqb (r - 1) 0 ≡ false = ne_eqb (r - 1) 0 (λ e. last (omega (arith, e, some))) in
        rw left (and-false (is_none_or o j))
reader_less o w r j S last full some most f = by (is_none_or o j) f
  where
    by : (b : Bool) → (b && ltb r MOST_READ_WRITE_HOLDS) ≡ false → (b && ltb (r - 1) MOST_READ_WRITE_HOLDS) ≡ false
    by true g =
        let all : MOST_READ_WRITE_HOLDS ≤ r = ltb-false r MOST_READ_WRITE_HOLDS g in
        absurd (full (omega (arith, all, most)))
    by false g = refl

either : (a b : Bool) → (a || b) ≡ true → (a ≡ true) ⊎ (b ≡ true)
either true b e = inl refl
either false b e = inr e

-- After a take of X.
pub wrote_alone : (s : State) (k : Counts) → IsSound s → MatchesFor s k → (i n : ℕ) → MayWrite s i →
    i < k.seats → (j : ℕ) (m : Mode) (b : ℕ) → j ≢ i → could (took k i X n) j m b ≡ false
wrote_alone s k t h i n may seat j m b ne =
    let P : ℕ → Type 0 = λ seats. i < seats in
    let sound = sound_wrote s i t may (subst P h.seats seat) in
    could_is (owned_by s (Some i) (s.writes + 1)) (took k i X n) sound
    (stands_wrote s k t h i n may seat) j m b
    ∙ alone_by i (s.writes + 1) s.readers j m ne

pub wrote_nobody : (s : State) (k : Counts) → IsSound s → MatchesFor s k → (i n : ℕ) → MayWrite s i →
    could_by s.owner s.writes s.readers i X ≡ true → i < k.seats → (j : ℕ) (m : Mode) (b : ℕ) →
    could k j m b ≡ false → could (took k i X n) j m b ≡ false
wrote_nobody s k t h i n may c seat j m b f =
    let P : ℕ → Type 0 = λ seats. i < seats in
    let sound = sound_wrote s i t may (subst P h.seats seat) in
    let before : could_by s.owner s.writes s.readers j m ≡ false = sym (could_is s k t h j m b) ∙ f in
    could_is (owned_by s (Some i) (s.writes + 1)) (took k i X n) sound
    (stands_wrote s k t h i n may seat) j m b
    ∙ writer_as_before s.owner s.writes s.readers i j m c may.admitted before

-- After a take of S.
could_read : (s : State) (k : Counts) → IsSound s → MatchesFor s k → (i n : ℕ) → i < k.seats →
    (j : ℕ) (m : Mode) (b : ℕ) → could (took k i S n) j m b ≡ could_by s.owner s.writes (s.readers + 1) j m
could_read s k t h i n seat j m b =
    let P : ℕ → Type 0 = λ seats. i < seats in
    let within : i < length s.reads = subst P h.seats seat in
    could_is (with_reads s i (slice_index s.reads i + 1) (s.readers + 1)) (took k i S n)
    (sound_read s i t within) (stands_read s k h i n within) j m b

pub read_nobody : (s : State) (k : Counts) → IsSound s → MatchesFor s k → (i n : ℕ) → i < k.seats →
    (j : ℕ) (m : Mode) (b : ℕ) → could k j m b ≡ false → could (took k i S n) j m b ≡ false
read_nobody s k t h i n seat j m b f =
    let before : could_by s.owner s.writes s.readers j m ≡ false = sym (could_is s k t h j m b) ∙ f in
    could_read s k t h i n seat j m b ∙ reader_as_before s.owner s.writes s.readers j m before

pub read_shared : (s : State) (k : Counts) → IsSound s → MatchesFor s k → (i n : ℕ) → MayRead s i →
    i < k.seats → (j b : ℕ) → j ≢ i → could (took k i S n) j X b ≡ false
read_shared s k t h i n may seat j b ne =
    could_read s k t h i n seat j X b ∙ reader_alone s.owner s.writes s.readers i j may.admitted ne

pub read_last : (s : State) (k : Counts) → IsSound s → MatchesFor s k → (i n : ℕ) →
    (eqb (s.readers + 1) MOST_READ_WRITE_HOLDS || is_seat s.owner i) ≡ true → i < k.seats → (j b : ℕ) → j ≢ i →
    could (took k i S n) j S b ≡ false
read_last s k t h i n last seat j b ne =
    could_read s k t h i n seat j S b ∙ ⊎_elim full owned (either _ _ last)
  where
    full : eqb (s.readers + 1) MOST_READ_WRITE_HOLDS ≡ true → could_by s.owner s.writes (s.readers + 1) j S ≡ false
    full e = full_alone s.owner s.writes (s.readers + 1) j (eqb-true _ _ e)

    owned : is_seat s.owner i ≡ true → could_by s.owner s.writes (s.readers + 1) j S ≡ false
    owned u = owned_alone s.owner i s.writes (s.readers + 1) j S u ne

pub read_answer : (s : State) (k : Counts) → IsSound s → MatchesFor s k → (i n : ℕ) → i < k.seats →
    take_answer (took k i S n) i S ≡ cond (eqb (s.readers + 1) MOST_READ_WRITE_HOLDS || is_seat s.owner i)
    take_answers.Last take_answers.More
read_answer s k t h i n seat =
    let P : ℕ → Type 0 = λ seats. i < seats in
    let within : i < length s.reads = subst P h.seats seat in
    let now : State = with_reads s i (slice_index s.reads i + 1) (s.readers + 1) in
    let sound : IsSound now = sound_read s i t within in
    let stands : MatchesFor now (took k i S n) = stands_read s k h i n within in
    let own = owner_of now (took k i S n) sound stands in
    let all = readers_of now (took k i S n) sound stands in
    let last : Taken =
    cond (eqb (s.readers + 1) MOST_READ_WRITE_HOLDS || is_seat s.owner i) take_answers.Last take_answers.More in
    let Q : Object → Type 0 = λ o. take_answer_of o (took k i S n) i S ≡ last in
    subst Q (sym h.object) (rw own (rw all refl))

pub read_less_answer : (s : State) (k : Counts) → IsSound s → MatchesFor s k → (i n : ℕ) →
    give_answer k i S n ≡ open_where (eqb s.readers 1 || eqb s.readers MOST_READ_WRITE_HOLDS)
read_less_answer s k t h i n =
    let all = readers_of s k t h in
    rw h.object (rw all refl)

pub write_less_kept : (s : State) (k : Counts) → IsSound s → MatchesFor s k → (i n : ℕ) →
    is_seat s.owner i ≡ true → 0 < s.writes - 1 → (j : ℕ) (m : Mode) (b : ℕ) → j ≢ i →
    could (given k i X n) j m b ≡ false
write_less_kept s k t h i n u some j m b ne =
    let g : given k i X n ≡ gave_back k i X n = rw h.object refl in
    let now : State = owned_by s s.owner (s.writes - 1) in
    rw g (could_is now (gave_back k i X n) (sound_write_less s i t u some)
    (stands_write_less s k h i n u) j m b
    ∙ owned_alone s.owner i (s.writes - 1) s.readers j m u ne)

pub read_less_kept : (s : State) (k : Counts) → IsSound s → MatchesFor s k → (i n : ℕ) →
    0 < slice_index s.reads i → (s.readers ≡ 1 → ⊥) → (s.readers ≡ MOST_READ_WRITE_HOLDS → ⊥) →
    s.readers ≤ MOST_READ_WRITE_HOLDS → (j : ℕ) (m : Mode) (b : ℕ) → could k j m b ≡ false →
    could (given k i S n) j m b ≡ false
read_less_kept s k t h i n some last full most j m b f =
    let g : given k i S n ≡ gave_back k i S n = rw h.object refl in
    let within : i < length s.reads = reader_seated s i some in
    let now : State = with_reads s i (slice_index s.reads i - 1) (s.readers - 1) in
    let before : could_by s.owner s.writes s.readers j m ≡ false = sym (could_is s k t h j m b) ∙ f in
    rw g (could_is now (gave_back k i S n) (sound_read_less s i t within some)
    (stands_read_less s k h i n within) j m b
    ∙ reader_less s.owner s.writes s.readers j m last full (readers_some s i t some) most before)

-- After a restore.
pub restored_alone : (s : State) (k : Counts) → IsSound s → MatchesFor s k → (i holds : ℕ) →
    IsRestorable k i holds → (j : ℕ) (m : Mode) (b : ℕ) → j ≢ i → could (restored k i holds) j m b ≡ false
restored_alone s k t h i holds r j m b ne =
    could_is (owned_by s (Some i) holds) (restored k i holds) (sound_restored s k t h i holds r)
    (stands_restored s k t h i holds r) j m b
    ∙ alone_by i holds s.readers j m ne

true_or : (a b : Bool) → a ≡ true → (a || b) ≡ false → ⊥
true_or true b t f = cc
true_or false b t f = cc

or_true : (a b : Bool) → b ≡ true → (a || b) ≡ false → ⊥
or_true true b t f = cc
or_true false b t f = cc

-- neither the last reader nor at the limit
pub not_either : (r : ℕ) → (eqb r 1 || eqb r MOST_READ_WRITE_HOLDS) ≡ false → (r ≡ 1 → ⊥) × (r ≡ MOST_READ_WRITE_HOLDS → ⊥)
not_either r f = (λ e. no_first e, λ e. no_second e)
  where
    no_first : r ≡ 1 → ⊥
    no_first e = let t : eqb r 1 ≡ true = eq-eqb r 1 e in true_or (eqb r 1) (eqb r MOST_READ_WRITE_HOLDS) t f

    no_second : r ≡ MOST_READ_WRITE_HOLDS → ⊥
    no_second e =
        let t : eqb r MOST_READ_WRITE_HOLDS ≡ true = eq-eqb r MOST_READ_WRITE_HOLDS e in or_true (eqb r 1) (eqb r MOST_READ_WRITE_HOLDS) t f
