-- What the calls of a lock ask of its monitor.
use Rattle.std.specs.Prelude.{Option, Some, None}
use Rattle.guarded.specs.Below.{Deed, How, Mode}
use Rattle.guarded.specs.Asking.{Call, acquires, tries}

-- a hold in a mode: an acquire that waits so, or a try
abbrev pub asks : (Deed → Type 0) → Mode → Option How → Call
asks did m (Some how) = acquires did m how
asks did m None = tries did m
