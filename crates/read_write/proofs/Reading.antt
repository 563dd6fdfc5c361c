-- What a read-write lock's hooks say of the counts that they stand for.
use Rattle.std.proofs.Common.{◌≡◌, ℕ, ◌<◌, Bool, true, false, not, ◌&&◌, cond, ltb, eqb, length, slice_index, Option, Some, None, Ok, Err, refl, ap, ◌∙◌, sym, subst, arith, ltb-true, eqb-true}
use Rattle.std.proofs.lemmas.Bool.{and_parts}
use Rattle.read_write.specs.Below.{Mode, X, S, could, is_seat, is_none_or, MOST_READ_WRITE_HOLDS, Counts, owner, readers, total, let_go_answer, holds_of, is_owned, is_owner_in}
use Rattle.history.specs.declared.fault.Fault.TheVariants as fault
use Rattle.history.proofs.Sums.{total_same}
use Rattle.frame.proofs.Owners.{owner_is}
use Rattle.read_write.specs.State.{State, MatchesFor, state_of, holds_by}
use Rattle.read_write.specs.inner.{could_by}
use Rattle.read_write.specs.declared.hooks.RwHooks.{RwHooks}

-- An owner has a write hold and is one of the seats. The number of readers is the sum of the table.
pub record IsSound (s : State) : Type 0 where
  pub owned : is_owned MOST_READ_WRITE_HOLDS s.owner s.writes ≡ true
  pub seated : is_owner_in (length s.reads) s.owner ≡ true
  pub summed : s.readers ≡ total (length s.reads) (slice_index s.reads)

-- the ghost fields
pub sound_of : (s : RwHooks) → IsSound (state_of s)
sound_of s = record { owned = s.owned; seated = s.seated; summed = s.summed }

pub owner_of : (s : State) (k : Counts) → IsSound s → MatchesFor s k → owner k ≡ s.owner
owner_of s k t h = owner_is MOST_READ_WRITE_HOLDS s.owner s.writes k t.owned h.owns

pub readers_of : (s : State) (k : Counts) → IsSound s → MatchesFor s k → readers k ≡ s.readers
readers_of s k t h =
    let here = total_same k.seats (λ i. k.held i S) (slice_index s.reads) h.shared in
    here ∙ ap (λ n. total n (slice_index s.reads)) h.seats ∙ sym t.summed

pub could_is : (s : State) (k : Counts) → IsSound s → MatchesFor s k → (i : ℕ) (m : Mode) (n : ℕ) →
    could k i m n ≡ could_by s.owner s.writes s.readers i m
could_is s k t h i X n =
    let own = owner_of s k t h in
    let all = readers_of s k t h in
    let had = h.owns.held i in
    rw h.object (rw own (rw had (rw all refl)))
could_is s k t h i S n =
    let own = owner_of s k t h in
    let all = readers_of s k t h in
    rw h.object (rw own (rw all refl))

pub let_go_is : (s : State) (k : Counts) → IsSound s → MatchesFor s k → (i : ℕ) →
    let_go_answer k i ≡ cond (not (is_seat s.owner i)) (Err fault.NotOwner)
    (cond (ltb 0 (slice_index s.reads i)) (Err fault.HoldsRead) (Ok (holds_of s.owner s.writes i)))
let_go_is s k t h i =
    let own = owner_of s k t h in
    let reads = h.shared i in
    let writes = h.owns.held i in
    rw h.object (rw own (rw reads (rw writes refl)))

-- Who could write is nobody else's subject and below the limit.
pub record MayWrite (s : State) (i : ℕ) : Type 0 where
  pub admitted : is_none_or s.owner i ≡ true
  pub below : s.writes < MOST_READ_WRITE_HOLDS

by_some : (b : Bool) (w r : ℕ) → cond b (ltb (cond b w 0) MOST_READ_WRITE_HOLDS) (b && eqb r 0) ≡ true → (b ≡ true)
    × (w < MOST_READ_WRITE_HOLDS)
by_some true w r c = (refl, ltb-true _ _ c)
by_some false w r c = cc

by_owner : (o : Option ℕ) (w r i : ℕ) → is_owned MOST_READ_WRITE_HOLDS o w ≡ true →
    cond (is_seat o i) (ltb (holds_of o w i) MOST_READ_WRITE_HOLDS) (is_none_or o i && eqb r 0) ≡ true →
    (is_none_or o i ≡ true) × (w < MOST_READ_WRITE_HOLDS)
by_owner None w r i t c =
    let none : w ≡ 0 = eqb-true w 0 t in
    (refl, omega (arith, none))
by_owner (Some j) w r i t c = by_some (eqb j i) w r c

pub may_write : (s : State) (i : ℕ) → IsSound s → could_by s.owner s.writes s.readers i X ≡
    true → MayWrite s i
may_write s i t c =
    let both = by_owner s.owner s.writes s.readers i t.owned c in
    record { admitted = both.0; below = both.1 }

-- Who could read is beside no other writer, and there is a read hold left.
pub record MayRead (s : State) (i : ℕ) : Type 0 where
  pub admitted : is_none_or s.owner i ≡ true
  pub below : s.readers < MOST_READ_WRITE_HOLDS

pub may_read : (s : State) (i : ℕ) → could_by s.owner s.writes s.readers i S ≡ true → MayRead s i
may_read s i c =
    let both = and_parts (is_none_or s.owner i) (ltb s.readers MOST_READ_WRITE_HOLDS) c in
    record { admitted = both.0; below = ltb-true _ _ both.1 }

pub takes_write : (s : State) (k : Counts) → IsSound s → MatchesFor s k → (i : ℕ) (m : Mode) (n : ℕ) →
    m ≡ X → could k i m n ≡ true → could_by s.owner s.writes s.readers i X ≡ true
takes_write s k t h i m n e c =
    let P : Mode → Type 0 = λ z. could k i z n ≡ true in
    sym (could_is s k t h i X n) ∙ subst P e c

pub takes_read : (s : State) (k : Counts) → IsSound s → MatchesFor s k → (i : ℕ) (m : Mode) (n : ℕ) → m ≡ S →
    could k i m n ≡ true → could_by s.owner s.writes s.readers i S ≡ true
takes_read s k t h i m n e c =
    let P : Mode → Type 0 = λ z. could k i z n ≡ true in
    sym (could_is s k t h i S n) ∙ subst P e c

-- Who gives has a hold.
owner_by : (b : Bool) (w : ℕ) → (cond b w 0 ≡ 0 → ⊥) → b ≡ true
owner_by true w some = refl
owner_by false w some = absurd (some refl)

pub gives_write : (s : State) (i : ℕ) (m : Mode) (x : ℕ) → x ≡ holds_by s i m → (x ≡ 0 → ⊥) → m ≡ X →
    is_seat s.owner i ≡ true
gives_write s i m x e some q =
    let P : Mode → Type 0 = λ z. x ≡ holds_by s i z in
    let had : x ≡ holds_of s.owner s.writes i = subst P q e in
    owner_by (is_seat s.owner i) s.writes (λ none. some (had ∙ none))

pub gives_read : (s : State) (i : ℕ) (m : Mode) (x : ℕ) → x ≡ holds_by s i m → (x ≡ 0 → ⊥) → m ≡ S →
    0 < slice_index s.reads i
gives_read s i m x e some q =
    let P : Mode → Type 0 = λ z. x ≡ holds_by s i z in
    let had : x ≡ slice_index s.reads i = subst P q e in
    omega (arith, had, some)
