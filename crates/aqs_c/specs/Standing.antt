-- What holds of a seat between its calls.
use Rattle.std.specs.Prelude.{◌≡◌, Option, Some, None}
use Rattle.aqs_c.specs.Below.{Shown, Waits, Waiting, LockId}

-- one that is in a call waits
abbrev pub StandsBy : Option Waiting → Shown → Type 0
StandsBy None p = Unit {0}
StandsBy (Some w) p = Waits p.seen p.seat

-- the pass is of this monitor
abbrev pub IsSeat : LockId → Shown → Option Waiting → Type 0
IsSeat lock p waiting = (p.lock ≡ lock) × StandsBy waiting p
