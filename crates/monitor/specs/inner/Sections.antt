-- A section of the lock: what the token of a pass took, and what is left once it is put back.
use Rattle.std.specs.Prelude.{◌≡◌, ℕ, Result}
use Rattle.monitor.specs.Below.{CoreView, Fault, Answer, Step, Before, AllAgree, Ticket, after_lock}
use Rattle.monitor.specs.Calling.{CalledQuietly}
use Rattle.monitor.specs.Lawful.{IsLawfulCore, point_of}
use Rattle.monitor.specs.Shown.{IsPass, shown}
use Rattle.monitor.specs.Stepping.{IsStep}

-- The token of a pass took this core. It was `t`, and has been `o` since.
pub record Taking (t o : Ticket) (v : CoreView) (seat share : ℕ) : Type 0 where
  pub taken : o ≡ after_lock t (point_of v)
  pub was : IsPass t seat share
  pub begins : Before t.seen (point_of v)
  pub entries : AllAgree (point_of v) t.logs
  pub kept : IsLawfulCore v

-- The token is that of a pass again, which has made one step since it was `t`.
pub record Went (t n : Ticket) (seat share next : ℕ) (step : Step) (r : Result Answer Fault) :
    Type 0 where
  pub pass : IsPass n seat next
  pub called : CalledQuietly (shown t seat share) (shown n seat next)
  pub stepped : IsStep (shown t seat share) step r (shown n seat next)
