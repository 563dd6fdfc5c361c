-- What a load knows of a turn of the lock.
use Rattle.std.specs.Prelude.{Bool, true, false}
use Rattle.monitor.specs.Below.{Step, Signal, SignalAll}

-- the steps that change nobody's holds
abbrev pub is_signal : Step → Bool
is_signal (Signal c) = true
is_signal (SignalAll c) = true
is_signal _ = false
