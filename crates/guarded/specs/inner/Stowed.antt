-- Where the value of a guarded lock is: under the lock, or with the one owner.
use Rattle.std.specs.Prelude.{◌==◌, ◌≡◌, ◌<◌, ℕ, Bool, true, false, not, Option, Some, None}
use Rattle.history.specs.Counts.{Counts}
use Rattle.guarded.specs.declared.slot.Slot.{Slot}
use Rattle.guarded.specs.declared.slot.Slot.TheVariants.{Empty, Full, Lent}
use Rattle.guarded.specs.Stowed.{Rests}

-- whether just one of the two is so
abbrev pub differ : Bool → Bool → Bool
differ true y = not y
differ false y = y

-- the first hold came, or the last one went
abbrev pub crosses : ℕ → ℕ → Bool
crosses before after = differ (before == 0) (after == 0)

-- the value of a slot, if it is there
abbrev pub value_in : {T I : Type 0} → Slot T I → Option T
value_in Empty = None
value_in (Full x) = Some x
value_in (Lent p) = None

-- a pass with this number of holds has the value, in this slot or in its guard, exactly if that is above 0
abbrev pub Carries : {T I : Type 0} → ℕ → Slot T I → Type 0
Carries n Empty = n ≡ 0
Carries n (Full x) = 0 < n
Carries n (Lent p) = 0 < n

-- it may lie under the lock: a value that is there meets the invariant
abbrev pub MayLie : {T I : Type 0} → (T → Type 0) → Slot T I → Type 0
MayLie invariant Empty = Unit {0}
MayLie invariant (Full x) = invariant x
MayLie invariant (Lent p) = ⊥

-- what holds of the slot under the lock whenever that is free
abbrev pub Lies : {T I : Type 0} → (T → Type 0) → Slot T I → Counts → Type 0
Lies invariant slot k = Rests (value_in slot) k × MayLie invariant slot
