-- The steps whose lines are read at once.
use Rattle.std.specs.Prelude.{ℕ}
use Rattle.steps.specs.Below.{X, S, Step}
use Rattle.history.specs.declared.step.Step.TheVariants as step
use Rattle.steps.specs.declared.common_step.Common.{Common}
use Rattle.steps.specs.declared.common_step.Common.TheVariants.{
  Acquire,
  AcquireShared,
  Give,
  GiveShared,
  Look,
  Try,
  TryFair,
  EntryInterrupt,
  Expire,
  Interrupt,
}

abbrev pub step_of : Common → Step
step_of Acquire = step.Acquire X 1
step_of AcquireShared = step.Acquire S 1
step_of Give = step.Give X 1
step_of GiveShared = step.Give S 1
step_of Look = step.Look
step_of Try = step.Try X 1
step_of TryFair = step.TryFair X 1
step_of EntryInterrupt = step.EntryInterrupt X 1
step_of Expire = step.Expire
step_of Interrupt = step.Interrupt

-- a seat with its step
abbrev pub stepped : ℕ × Common → ℕ × Step
stepped found = (found.0, step_of found.1)
