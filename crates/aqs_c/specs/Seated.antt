-- What a seat shows.
use Rattle.std.specs.Prelude.{Option, Some, None}
use Rattle.aqs_c.specs.Below.{Shown, Next, Ends, Waiting}
use Rattle.monitor.specs.declared.machine.Next.TheVariants.{Waits}

-- a seat's pass, and the call in which it waits
pub record Seated : Type 0 where
  pub pass : Shown
  pub waiting : Option Waiting

abbrev pub seated : Shown → Option Waiting → Seated
seated p w = record { pass = p; waiting = w }

abbrev pub waiting_in : Next → Option Waiting
waiting_in (Ends reply again) = None
waiting_in (Waits w) = Some w
