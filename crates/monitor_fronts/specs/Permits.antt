-- What the calls of a semaphore do to permits: to those that the pass has, and to those that are free.
use Rattle.std.specs.Prelude.{◌≡◌, ℕ, Bool, true, Result, Ok, Err, IfOk, [], ℤ, pos, ◌+ℤ◌, ◌-ℤ◌, ◌≤ℤ◌}
use Rattle.monitor_fronts.specs.Below.{free, is_semaphore, opening, at_least_none, Fault, Point, start_at, free_of, Shown}
use Rattle.monitor_fronts.specs.OwnEntry.{AtOwnEntry}

-- The permits that the pass took, less those that it gave back, by its own entries alone. The number is below 0 if
-- the pass gave back more.
abbrev pub permits : Shown → ℤ
permits p = free (opening p.lock.header) [] -ℤ free_of p

-- the free permits of a history
abbrev pub free_at : Point → ℤ
free_at p = free (start_at p) p.entries

-- an amount, if the call returned yes
abbrev pub if_yes : Result Bool Fault → ℕ → ℕ
if_yes (Ok true) n = n
if_yes _ n = 0

-- the number that a call returned, or 0
abbrev pub if_ok : Result ℕ Fault → ℕ
if_ok (Ok n) = n
if_ok (Err f) = 0

-- a call for so many permits took them if it returned yes, and none if not
abbrev pub TakesPermits : ℕ → Shown → Result Bool Fault → Shown → Type 0
TakesPermits n old told new = permits new ≡ permits old +ℤ pos (if_yes told n)

-- a release of so many permits of a semaphore gave them back if it returned yes, and none if not
abbrev pub GivesPermits : ℕ → Shown → Result Bool Fault → Shown → Type 0
GivesPermits n old told new =
    is_semaphore old.lock.header.object ≡ true → permits new +ℤ pos (if_yes told n) ≡ permits old

-- a call took as many permits as it returned, and none if it failed
abbrev pub DrainsPermits : Shown → Result ℕ Fault → Shown → Type 0
DrainsPermits old drained new = permits new ≡ permits old +ℤ pos (if_ok drained)

-- so many permits were free, and an entry took them
abbrev pub IsTaken : ℕ → Point → Point → Type 0
IsTaken n before after = (pos n ≤ℤ free_at before) × (free_at after ≡ free_at before -ℤ pos n)

-- an entry gave so many permits back
abbrev pub IsGiven : ℕ → Point → Point → Type 0
IsGiven n before after = free_at after ≡ free_at before +ℤ pos n

-- so many permits were free, none if their number was below 0, and an entry took them
abbrev pub IsDrained : ℕ → Point → Point → Type 0
IsDrained n before after = (n ≡ at_least_none (free_at before)) × (free_at after ≡ free_at before -ℤ pos n)

-- if a call for so many permits of a semaphore returned yes, its entry took them from those that were free there
abbrev pub TakesFree : ℕ → Shown → Result Bool Fault → Shown → Type 0
TakesFree n old told new =
    is_semaphore old.lock.header.object ≡ true → told ≡ Ok true → AtOwnEntry (IsTaken n) old new

-- if a release returned yes, its entry gave the permits back
abbrev pub GivesFree : ℕ → Shown → Result Bool Fault → Shown → Type 0
GivesFree n old told new =
    is_semaphore old.lock.header.object ≡ true → told ≡ Ok true → AtOwnEntry (IsGiven n) old new

-- if a drain returned a number, its entry took so many permits, which were all that were free there
abbrev pub DrainsFree : Shown → Result ℕ Fault → Shown → Type 0
DrainsFree old drained new = IfOk drained (λ n. AtOwnEntry (IsDrained n) old new)
