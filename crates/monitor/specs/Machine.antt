-- A call that may wait, turn by turn.
use Rattle.std.specs.Prelude.{
  ◌≡◌,
  ◌&&◌,
  ◌||◌,
  not,
  ℕ,
  Bool,
  true,
  false,
  Option,
  Some,
  None,
  is_some,
  if◌then◌else◌,
  Result,
  Ok,
  Err,
}
use Rattle.monitor.specs.Below.{Entry, X, Word, Fault, OutOfPhase, Answer, Recorded, Sleep, Step, Deed, Woke, Permit, Deadline, Interrupted}
use Rattle.history.specs.declared.entry.Word.TheVariants as word
use Rattle.history.specs.declared.step.Step.TheVariants as step
use Rattle.monitor.specs.Acquire.{IsAcquire, first_step, is_interruptible, moment_after}
use Rattle.monitor.specs.AwaitOn.{IsAwait, first_stage}
use Rattle.monitor.specs.Interrupts.{tells_interrupt}
use Rattle.monitor.specs.Shown.{Shown}
use Rattle.monitor.specs.Stepping.{IsStep}
use Rattle.monitor.specs.Waits as of_waits
use Rattle.monitor.specs.Waits.{is_lapse, no_limits, stage_asleep}
use Rattle.monitor.specs.declared.how.How.{How}
use Rattle.monitor.specs.declared.how.How.TheVariants.{Timed}
use Rattle.monitor.specs.declared.machine.Next.{Next}
use Rattle.monitor.specs.declared.machine.Next.TheVariants.{Ends, Waits}
use Rattle.monitor.specs.declared.machine.Request.{Request}
use Rattle.monitor.specs.declared.machine.Request.TheVariants.{Acquire, AwaitOn}
use Rattle.monitor.specs.declared.machine.Turn.{Turn}
use Rattle.monitor.specs.declared.machine.Waiting.{Waiting}
use Rattle.monitor.specs.declared.waiting.Limits.{Limits}
use Rattle.monitor.specs.declared.waiting.Stage.{Stage}
use Rattle.monitor.specs.declared.waiting.Stage.TheVariants.{Expires, Parks, Looks, GivenUp}

-- what a whole call records
abbrev pub IsCall : (Deed → Type 0) → Shown → Request → How → Result Entry Fault → Shown → Type 0
IsCall did old (Acquire m n) how reply new = IsAcquire did old m n how reply new
IsCall did old (AwaitOn c) how reply new = IsAwait did old c how reply new

-- its first step: a refusal, if an interrupt was pending
abbrev pub step_by : Request → How → Bool → Step
step_by (Acquire m n) how true = step.EntryInterrupt m n
step_by (Acquire m n) how false = first_step how m n
step_by (AwaitOn c) how true = step.EntryInterrupt X 1
step_by (AwaitOn c) how false = step.Await c

-- it asks to let all holds go, and to have them again
abbrev pub AsksAwait : Request → Type 0
AsksAwait (Acquire m n) = ⊥
AsksAwait (AwaitOn c) = Unit {0}

-- the entry of a first step by which it begins to wait
abbrev pub begins_wait : Request → Word → Bool
begins_wait (Acquire m n) word.Queued = true
begins_wait (AwaitOn c) word.Await = true
begins_wait _ _ = false

-- how it parks then: its time is counted from this moment
abbrev pub until_from : ℕ → How → Option ℕ
until_from moment (Timed ms) = Some (moment_after moment ms)
until_from moment _ = None

abbrev pub limits_from : ℕ → How → Limits
limits_from moment how = record { until = until_from moment how; interruptible = is_interruptible how }

abbrev pub stage_for : Request → How → Stage
stage_for (Acquire m n) how = Parks
stage_for (AwaitOn c) how = first_stage how

abbrev pub begun : Request → How → ℕ → Waiting
begun q how moment =
    record { limits = limits_from moment how; stage = stage_for q how; interrupted = false }

abbrev pub next_by : Bool → Waiting → Entry → Next
next_by true w e = Waits w
next_by false w e = Ends (Ok e) false

-- the first turn, by what its step was answered. `was` says whether an interrupt was pending
abbrev pub first_turn : Request → How → ℕ → Bool → Result Answer Fault → Turn
first_turn q how moment was (Ok (Recorded e named)) =
    record { named = named; next = next_by (begins_wait q e.word) (begun q how moment) e }
first_turn q how moment was (Ok Sleep) = record { named = None; next = Ends (Err OutOfPhase) was }
first_turn q how moment was (Err f) = record { named = None; next = Ends (Err f) was }

-- the turn was made of one step of the pass, and of nothing else
abbrev pub IsBegun : Shown → Request → How → ℕ → Bool → Turn → Shown → Type 0
IsBegun old q how moment was turn new =
    (r : Result Answer Fault) × IsStep old (step_by q how was) r new × (turn ≡ first_turn q how moment was r)

-- if the call waits, its seat does
abbrev pub LeavesWaiting : Next → Shown → Type 0
LeavesWaiting (Ends reply again) p = Unit {0}
LeavesWaiting (Waits w) p = of_waits.Waits p.seen p.seat

-- how one who waits parks at a stage, if it parks there
abbrev pub limits_at : Stage → Limits → Option Limits
limits_at Expires l = None
limits_at Parks l = Some l
limits_at Looks l = None
limits_at GivenUp l = Some no_limits

-- the step that a park leads to, if these limits allow it
abbrev pub step_within : Limits → Woke → Step
step_within l Permit = step.Look
step_within l Deadline = if is_some l.until then step.Expire else step.Look
step_within l Interrupted = if l.interruptible then step.Interrupt else step.Look

abbrev pub step_at : Stage → Limits → Woke → Step
step_at Expires l woke = step.Expire
step_at Parks l woke = step_within l woke
step_at Looks l woke = step.Look
step_at GivenUp l woke = step.Look

abbrev pub is_interrupt : Step → Bool
is_interrupt step.Interrupt = true
is_interrupt _ = false

abbrev pub at_stage : Waiting → Step → Stage → Waiting
at_stage w s stage =
    record { limits = w.limits; stage = stage; interrupted = w.interrupted || is_interrupt s }

-- after its lapse it waits on; any other entry ends the call
abbrev pub next_behind : Bool → Waiting → Step → Entry → Next
next_behind true w s e = Waits (at_stage w s Looks)
next_behind false w s e =
    Ends (Ok e) ((w.interrupted || is_interrupt s) && not (tells_interrupt (Ok e)))

abbrev pub later_turn : Waiting → Step → Result Answer Fault → Turn
later_turn w s (Ok (Recorded e named)) =
    record { named = named; next = next_behind (is_lapse e.word) w s e }
later_turn w s (Ok Sleep) = record { named = None; next = Waits (at_stage w s (stage_asleep w.stage s)) }
later_turn w s (Err f) = record { named = None; next = Ends (Err f) (w.interrupted || is_interrupt s) }

abbrev pub step_of_waiting : Waiting → Woke → Step
step_of_waiting w woke = step_at w.stage w.limits woke

abbrev pub IsGoneOn : Shown → Waiting → Woke → Turn → Shown → Type 0
IsGoneOn old w woke turn new =
    (r : Result Answer Fault) × IsStep old (step_of_waiting w woke) r new
    × (turn ≡ later_turn w (step_of_waiting w woke) r)
