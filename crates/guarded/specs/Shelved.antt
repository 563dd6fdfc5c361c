-- Where the items of a pool are: as many lie there as permits are free.
use Rattle.std.proofs.Common.{◌≡◌, true, List, length, pos, ◌∙◌, ap, sym}
use Rattle.guarded.specs.Below.{Counts, is_semaphore, AreAlike, LockId}

-- what holds whenever the pool is free
pub record Lies {T : Type 0} (items : List T) (k : Counts) : Type 0 where
  pub semaphore : is_semaphore k.object ≡ true
  pub each : pos (length items) ≡ k.free

pub alike_lies : {T : Type 0} (items : List T) (k l : Counts) → AreAlike k l → Lies items k → Lies items l
alike_lies items k l same lies =
    record {
      semaphore = ap is_semaphore same.object ∙ lies.semaphore;
      each = lies.each ∙ sym (same.free lies.semaphore);
    }

-- the object is a semaphore
abbrev pub IsOfSemaphore : LockId → Type 0
IsOfSemaphore l = is_semaphore l.header.object ≡ true
