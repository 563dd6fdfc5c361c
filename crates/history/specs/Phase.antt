-- A seat is idle, in the queue, or asleep on a condition. Each step is for a waiter or for an idle seat.
use Rattle.std.specs.Prelude.{ℕ, Bool, true, false, not, List, Option, Some, None}
use Rattle.history.specs.Types.{Arrival, Entry, Step, Look, Expire, Interrupt}
use Rattle.history.specs.Line.{line, place_of}
use Rattle.history.specs.Sleepers.{sleeps_below}
use Rattle.history.specs.Start.{Start}

pub data Phase : Type 0 where
  Idle : Phase
  InLine : (a : Arrival) → Phase
  Sleeping : Phase

abbrev pub phase_by : Option Arrival → Bool → Phase
phase_by (Some a) sleeps = InLine a
phase_by None true = Sleeping
phase_by None false = Idle

abbrev pub phase : Start → List Entry → ℕ → Phase
phase s h i = phase_by (place_of i (line s h)) (sleeps_below s.header.conditions s h i)

-- the steps of a waiter
abbrev pub waits : Step → Bool
waits Look = true
waits Expire = true
waits Interrupt = true
waits _ = false

abbrev pub suits : Phase → Step → Bool
suits Idle step = not (waits step)
suits (InLine a) step = waits step
suits Sleeping step = waits step
