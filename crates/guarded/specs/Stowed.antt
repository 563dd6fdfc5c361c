-- Where the value of a guarded lock is: under the lock, or with the one owner.
use Rattle.std.proofs.Common.{◌≡◌, ◌<◌, ℕ, true, Option, Some, None, ◌∙◌, sym, subst}
use Rattle.guarded.specs.Below.{X, Counts, is_lock, AreAlike, LockId, WhenFull}
use Rattle.guarded.specs.declared.slot.Slot.{Slot}
use Rattle.guarded.specs.declared.slot.Slot.TheVariants.{Empty, Full, Lent}

-- the value is away exactly where some seat holds
abbrev pub IsStowed : {T : Type 0} → (ℕ → ℕ) → Option T → Type 0
IsStowed f None = (i : ℕ) × (0 < f i)
IsStowed f (Some x) = (i : ℕ) → f i ≡ 0

-- what holds of the value under the lock, if it is there, whenever the lock is free
pub record Rests {T : Type 0} (value : Option T) (k : Counts) : Type 0 where
  pub lock : is_lock k.object ≡ true
  pub stowed : IsStowed (λ i. k.held i X) value

stowed_alike : {T : Type 0} (v : Option T) (f g : ℕ → ℕ) → ((i : ℕ) → g i ≡ f i) → IsStowed f v → IsStowed g v
stowed_alike None f g same s = (s.0, subst (λ (n : ℕ). 0 < n) (sym (same s.0)) s.1)
stowed_alike (Some x) f g same s = λ i. same i ∙ s i

pub alike_so : {T : Type 0} (v : Option T) (k l : Counts) → AreAlike k l → Rests v k → Rests v l
alike_so v k l same r =
    record {
      lock = subst (λ o. is_lock o ≡ true) (sym same.object) r.lock;
      stowed = stowed_alike v (λ i. k.held i X) (λ i. l.held i X) (λ i. same.held i X) r.stowed;
    }

-- whether the value is there
abbrev pub IsFull : {T I : Type 0} → Slot T I → Type 0
IsFull Empty = ⊥
IsFull (Full x) = Unit {0}
IsFull (Lent p) = ⊥

-- a value that is there meets the invariant
abbrev pub Kept : {T I : Type 0} → (T → Type 0) → Slot T I → Type 0
Kept {T} invariant slot = (value : T) → slot ≡ Full value → invariant value

-- the object is a lock, which has one owner
abbrev pub IsOfLock : LockId → Type 0
IsOfLock l = is_lock l.header.object ≡ true

-- What is seen of such a lock: which it is, and what it does if its history is full.
pub record MutexView : Type 0 where
  pub lock : LockId
  pub when_full : WhenFull

abbrev pub mutex_view : LockId → WhenFull → MutexView
mutex_view lock when_full = record { lock = lock; when_full = when_full }
