-- What the calls of a pool leave of the free permits, and so of the items that one has.
use Rattle.std.proofs.Common.{◌≡◌, ℕ, Bool, true, false, cond, length, Option, None, Result, Ok, Err, sym, ap, ◌∙◌, subst, arith, ℤ, pos, ◌+ℤ◌, ◌-ℤ◌}
use Rattle.std.proofs.lemmas.Int.{ints}
use Rattle.guarded.specs.Below.{Entry, Fault, is_semaphore, Deed, LockId, is_timed, Moves, free_of, Shown, IsSound, IsSame, How, WhenFull, if_ok, is_done, whether_of}
use Rattle.monitor_fronts.proofs.Permits.{Acquiring, Left, MayTell, PermitCall, Releasing, Trying, free_if, permits_left}
use Rattle.guarded.specs.declared.asking.PoolCall.{PoolCall}
use Rattle.guarded.specs.declared.asking.PoolCall.TheVariants as asks
use Rattle.guarded.specs.declared.shelf.Shelf.{Shelf}
use Rattle.guarded.specs.Prelude.{yes_if_some, Answers, IsOfSemaphore, MutexView, mutex_view}
use Rattle.guarded.specs.inner.Pooling.{Ends, asked_by, brought_by, pool_call}

-- a call of a pool is one of its semaphore
abbrev pub as_permits : PoolCall → PermitCall
as_permits (asks.Acquire n how) = Acquiring n how
as_permits (asks.Try n) = Trying n
as_permits (asks.Release n) = Releasing n

answers_as : (asked : PoolCall) (returned : Result Bool Fault) → MayTell (as_permits asked) returned →
    Answers asked returned
answers_as (asks.Acquire n how) (Ok false) may = may
answers_as (asks.Try n) (Ok false) may = may
answers_as (asks.Release n) (Ok false) may = may
answers_as asked (Ok true) may = tt
answers_as asked (Err f) may = tt

call_left : (did : Deed → Type 0) (w : WhenFull) (asked : PoolCall) (old new : Shown) (r : Result Entry Fault) →
    is_semaphore old.lock.header.object ≡ true → IsSame old new → IsSound new → pool_call did asked w old r new →
    Left (as_permits asked) old r new
call_left did w (asks.Acquire n how) old new r semaphore same shows made =
    permits_left did w (Acquiring n how) old new r semaphore same shows made
call_left did w (asks.Try n) old new r semaphore same shows made =
    permits_left did w (Trying n) old new r semaphore same shows made
call_left did w (asks.Release n) old new r semaphore same shows made =
    permits_left did w (Releasing n) old new r semaphore same shows made

-- a pass of a pool is of a semaphore
pub is_of_semaphore : {monitor : LockId} {when_full : WhenFull} {m : MutexView} {l : LockId} →
    mutex_view monitor when_full ≡ m → IsOfSemaphore monitor → l ≡ m.lock → is_semaphore l.header.object ≡ true
is_of_semaphore {monitor} {when_full} {m} {l} view semaphore of =
    ap (λ (k : LockId). is_semaphore k.header.object) of
    ∙ (ap (λ (v : MutexView). is_semaphore v.lock.header.object) (sym view) ∙ semaphore)

-- what one has then, by what one brought
has_by : (b : Bool) (asked : PoolCall) (m n : ℕ) (f : ℤ) → m ≡ brought_by asked →
    pos n +ℤ free_if b (as_permits asked) f ≡ pos m +ℤ f → n ≡ cond b (asked_by asked) (brought_by asked)
has_by true (asks.Acquire n how) m has f brings q = omega (arith, ints, q, brings)
has_by true (asks.Try n) m has f brings q = omega (arith, ints, q, brings)
has_by true (asks.Release n) m has f brings q = omega (arith, ints, q, brings)
has_by false asked m has f brings q = omega (arith, ints, q, brings)

-- what a call leaves on its shelf
pub call_ends : {T I : Type 0} (fit : Shelf T I → Type 0) (did : Deed → Type 0) (w : WhenFull) (asked is : PoolCall)
    (old new : Shown) (r : Result Entry Fault) (x y : Shelf T I) → asked ≡ is → is_semaphore old.lock.header.object ≡ true →
    length x.items ≡ brought_by asked → IsSame old new → IsSound new → pool_call did is w old r new →
    Moves fit true (λ (s : Shelf T I). length s.items) x (free_of old) y (free_of new) →
    Ends asked (whether_of r) x y
call_ends {T} {I} fit did w asked is old new r x y same_call semaphore brings same shows made m =
    let left = call_left did w asked old new r semaphore same shows
    (subst (λ (z : PoolCall). pool_call did z w old r new) (sym same_call) made) in
    record {
      answers = answers_as asked (whether_of r) left.answers;
      has =
          has_by (is_done (whether_of r)) asked (length x.items) (length y.items) (free_of old) brings
          (ap (λ (z : ℤ). pos (length y.items) +ℤ z) (sym left.free) ∙ m.0);
      keeps = λ missed. m.1 (left.free ∙ ap (λ (b : Bool). free_if b (as_permits asked) (free_of old)) missed);
    }

-- an acquire that waits as long as it must has items
pub never_none : {A : Type 0} (n : ℕ) (how : How) (got : Option A) → (is_timed how → ⊥) → got ≡ None →
    Answers (asks.Acquire n how) (yes_if_some (Ok got)) → ⊥
never_none {A} n how got never none answers =
    never (subst (λ (z : Option A). Answers (asks.Acquire n how) (yes_if_some (Ok z))) none answers)

-- a drain leaves as many items on its shelf as it returns
pub drained_items : {T I : Type 0} (fit : Shelf T I → Type 0) (x y : Shelf T I) (f g : ℤ) (r : Result ℕ Fault) →
    length x.items ≡ 0 → g ≡ f -ℤ pos (if_ok r) → Moves fit true (λ (s : Shelf T I). length s.items) x f y g →
    length y.items ≡ if_ok r
drained_items {T} {I} fit x y f g r none left m =
    by (length x.items) (length y.items) (if_ok r) f g none left m.0
  where
    by : (a b n : ℕ) (f g : ℤ) → a ≡ 0 → g ≡ f -ℤ pos n → pos b +ℤ g ≡ pos a +ℤ f → b ≡ n
    by a b n f g none left moved = omega (arith, ints, none, left, moved)

pub as_many : (r : Result ℕ Fault) (k n : ℕ) → r ≡ Ok n → k ≡ if_ok r → Ok k ≡ r
as_many r k n is q = ap (λ (m : ℕ). let s : Result ℕ Fault = Ok m in s) (q ∙ ap if_ok is) ∙ sym is
