-- The histories that break a law, computed, and why none of them is legal.
use Rattle.std.proofs.Common.{◌≡◌, ◌≢◌, ℕ, ◌+◌, ◌*◌, ◌≤◌, [], ◌∷◌, length, ap, arith, pos, ◌≤ℤ◌}
use Rattle.std.proofs.lemmas.Bool.{false≢true}
use Rattle.std.proofs.lemmas.Int.{ints}
use Rattle.std.proofs.lemmas.Option.{none-some}
use Rattle.laws.specs.Below.{MOST_AMOUNT, Entry, X, S, IsConserved, free, held, IsLegal, IsOwned, IsSaved, Fits, owed, releases, reserves, opening, plain}
use Rattle.history.specs.declared.entry.Word.TheVariants as word
use Rattle.history.specs.declared.fault.Fault.TheVariants as fault
use Rattle.history.proofs.Entering.{Known, known}
use Rattle.laws.specs.Breaks.{drained_too_many, full, leaves_unseen, lock, permit_slept_away, read_write, reader_beside_owner, released_too_many, semaphore, stranger_sleeps, two_owners}

not_one : ◌≡◌ {A = ℕ} 0 1 → ⊥
not_one q = absurd (omega (arith, q))

pub full_fits : Fits (opening lock) full
full_fits = omega arith

pub leaving_unseen_uneven : owed (opening lock) (leaves_unseen ∷ full)
    + releases lock.object leaves_unseen ≢ owed (opening lock) full + reserves lock.object leaves_unseen
leaving_unseen_uneven q = absurd (omega (arith, q))

pub leaving_unseen_illegal : IsLegal (opening lock) (leaves_unseen ∷ full) → ⊥
leaving_unseen_illegal legal =
    let k : Known (opening lock) full leaves_unseen =
    known (opening lock) full legal.0.0 leaves_unseen legal.0.1 in
    none-some k.0 k.1.stands

pub two_owners_two : IsOwned (opening lock) two_owners → ⊥
two_owners_two v = not_one (v.one 0 1 (omega arith) (omega arith))

pub two_owners_illegal : IsLegal (opening lock) two_owners → ⊥
two_owners_illegal legal =
    let k : Known (opening lock) (plain 0 word.Got X 1 ∷ []) (plain 1 word.Got X 1) =
    known (opening lock) (plain 0 word.Got X 1 ∷ []) legal.0.0 (plain 1 word.Got X 1) legal.0.1 in
    false≢true k.1

pub beside_two : IsOwned (opening read_write) reader_beside_owner → ⊥
beside_two v = not_one (v.alone 0 1 (omega arith) (omega arith))

pub beside_illegal : IsLegal (opening read_write) reader_beside_owner → ⊥
beside_illegal legal =
    let k : Known (opening read_write) (plain 0 word.Got X 1 ∷ []) (plain 1 word.Got S 1) =
    known (opening read_write) (plain 0 word.Got X 1 ∷ []) legal.0.0 (plain 1 word.Got S 1) legal.0.1 in
    false≢true k.1

pub stranger_nothing : IsSaved (opening lock) stranger_sleeps 0 → ⊥
stranger_nothing v = let l = v.some in absurd (omega (arith, l))

pub stranger_illegal : IsLegal (opening lock) stranger_sleeps → ⊥
stranger_illegal legal =
    let k : Known (opening lock) [] (plain 0 word.Await X 0) =
    known (opening lock) [] legal.0.0 (plain 0 word.Await X 0) legal.0.1 in
    none-some 0 k.0.owner

pub slept_away_lost : IsConserved (opening semaphore) permit_slept_away → ⊥
slept_away_lost q = absurd (omega (arith, ints, q))

pub slept_away_illegal : IsLegal (opening semaphore) permit_slept_away → ⊥
slept_away_illegal legal =
    let k : Known (opening semaphore) (plain 0 word.Got S 1 ∷ []) (plain 0 word.Await S 1) =
    known (opening semaphore) (plain 0 word.Got S 1 ∷ []) legal.0.0
    (plain 0 word.Await S 1) legal.0.1 in
    false≢true k.0.lock

pub released_past : free (opening semaphore) released_too_many ≤ℤ pos MOST_AMOUNT → ⊥
released_past l = absurd (omega (arith, ints, l))

pub released_illegal : IsLegal (opening semaphore) released_too_many → ⊥
released_illegal legal =
    let k : Known (opening semaphore) [] (plain 0 word.Gave S MOST_AMOUNT) =
    known (opening semaphore) [] legal.0.0 (plain 0 word.Gave S MOST_AMOUNT) legal.0.1 in
    not_gave k.1
  where
    not_gave : word.Refused fault.TooManyPermits ≡ word.Gave → ⊥
    not_gave q = cc

pub drained_past : held (opening semaphore) drained_too_many 0 S ≤ MOST_AMOUNT * length drained_too_many → ⊥
drained_past l = absurd (omega (arith, l))

pub drained_illegal : IsLegal (opening semaphore) drained_too_many → ⊥
drained_illegal legal =
    let k : Known (opening semaphore) [] (plain 0 word.Drained S 3000000000) =
    known (opening semaphore) [] legal.0.0 (plain 0 word.Drained S 3000000000) legal.0.1 in
    let n : ◌≡◌ {A = ℕ} 3000000000 1 = ap (λ (x : Entry). x.n) k.2 in
    absurd (omega (arith, n))
