-- A call that may wait, turn by turn.
use Rattle.std.specs.Prelude.{ℕ}
use Rattle.monitor.specs.Below.{Deed, Point}
use Rattle.monitor.specs.Acquire.{ShowedTo}
use Rattle.monitor.specs.declared.how.How.{How}
use Rattle.monitor.specs.declared.how.How.TheVariants.{Timed}

-- the clock showed the moment to one who had seen just so much, if the call is timed
abbrev pub WasShown : (Deed → Type 0) → Point → How → ℕ → Type 0
WasShown did seen (Timed ms) moment = ShowedTo did seen moment
WasShown did seen _ moment = Unit {0}
