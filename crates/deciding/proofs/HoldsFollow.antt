-- That a table of holds follows each entry, and how many holds one adds at most.
use Rattle.std.proofs.Common.{◌≡◌, ⊎_elim, ℕ, ◌+◌, ◌<◌, ◌≤◌, Bool, true, false, ◌&&◌, cond, eqb, List, ◌∷◌, length, get_or, set, refl, ap, ◌∙◌, sym, arith, eq-eqb, ne_eqb, get_or-set_same, get_or-set_other}
use Rattle.std.proofs.lemmas.Bool.{cases_eq}
use Rattle.deciding.specs.Below.{Entry, Mode, Word, Object, Lock, ReadWrite, Semaphore, Latch, held, holds_after, same_mode, in_holds, Start}
use Rattle.history.specs.declared.entry.Word.TheVariants as word
use Rattle.deciding.specs.Holds.{most_held}

-- what stands in a table behind a write
pub at_set : {A : Type 0} (t : List A) (j i : ℕ) (v d : A) → j < length t →
    get_or (set t j v) i d ≡ cond (eqb j i) v (get_or t i d)
at_set t j i v d l =
    ⊎_elim
    (λ q. rw (eq-eqb j i q) (ap (λ k. get_or (set t j v) k d) (sym q) ∙ get_or-set_same t j v d l))
    (λ ne. rw (ne_eqb j i ne) (get_or-set_other t j i v d (λ q. ne (sym q)))) (cases_eq j i)

-- the table of holds of a mode, written at the entry's seat where the entry is of that mode
pub table_follows : (s : Start) (e : Entry) (h : List Entry) (m : Mode) (table : List ℕ) (b : Bool) →
    same_mode e.mode m ≡ b → e.seat < length table → ((i : ℕ) → get_or table i 0 ≡ held s h i m) →
    (i : ℕ) → get_or (cond b (set table e.seat
    (holds_after s.header.object e.word e.n (get_or table e.seat 0))) table) i 0 ≡ held s (e ∷ h) i m
table_follows s e h m table true mode seat is i =
    at_set table e.seat i (holds_after s.header.object e.word e.n (get_or table e.seat 0)) 0 seat
    ∙ rw mode (⊎_elim
    (λ q. rw (eq-eqb e.seat i q) (ap (holds_after s.header.object e.word e.n)
    (is e.seat ∙ ap (λ j. held s h j m) q)))
    (λ ne. rw (ne_eqb e.seat i ne) (is i)) (cases_eq e.seat i))
table_follows s e h m table false mode seat is i = is i ∙ rw mode (none (eqb e.seat i))
  where
    none : (c : Bool) → held s h i m
        ≡ cond (c && false) (holds_after s.header.object e.word e.n (held s h i m)) (held s h i m)
    none true = refl
    none false = refl

-- one entry adds at most its amount, or one
taken_more : (o : Object) (n had : ℕ) → n ≤ 4294967295 → had + in_holds o n ≤ had + 4294967295
taken_more (Lock p) n had b = omega arith
taken_more (ReadWrite p) n had b = omega arith
taken_more (Semaphore p c) n had b = omega arith
taken_more (Latch c) n had b = omega arith

pub holds_more : (o : Object) (w : Word) (n had : ℕ) → n ≤ 4294967295 →
    holds_after o w n had ≤ had + 4294967295
holds_more o word.Got n had b = taken_more o n had b
holds_more o word.TryGot n had b = taken_more o n had b
holds_more o word.Granted n had b = taken_more o n had b
holds_more o word.Drained n had b = omega arith
holds_more o word.Back n had b = omega arith
holds_more o word.Gave n had b = omega arith
holds_more o word.Await n had b = omega arith
holds_more o _ n had b = omega arith

pub bound_follows : (first : ℕ) (s : Start) (e : Entry) (h : List Entry) (m : Mode) → e.n ≤ 4294967295 →
    ((i : ℕ) → held s h i m ≤ most_held first h) → (i : ℕ) →
    held s (e ∷ h) i m ≤ most_held first (e ∷ h)
bound_follows first s e h m amount bound i = by (eqb e.seat i && same_mode e.mode m)
  where
    by : (b : Bool) → cond b (holds_after s.header.object e.word e.n (held s h i m)) (held s h i m)
        ≤ most_held first (e ∷ h)
    by true =
        let more = holds_more s.header.object e.word e.n (held s h i m) amount in
        let was = bound i in
        omega (arith, more, was)
    by false = let was = bound i in omega (arith, was)
