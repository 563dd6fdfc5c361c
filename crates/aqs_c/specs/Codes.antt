-- Steps, calls and answers as numbers.
use Rattle.std.specs.Prelude.{◌≡◌, ◌⊎◌, ℕ, ◌+◌, Bool, true, false, Option, Some, None, Result, Ok, Err, is_some, unwrap_or}
use Rattle.aqs_c.specs.Below.{fault_number, Entry, Word, End, Mode, X, S, Fault, Step, Recorded, Sleep, limits_at, How, Plain, Interruptible, Timed, Next, Ends, Request, Acquire, AwaitOn, Turn, Now, Done, Busy, Limits, Woke, Permit, Deadline, Interrupted}
use Rattle.history.specs.declared.entry.Word.TheVariants as word
use Rattle.history.specs.declared.entry.End.TheVariants as end
use Rattle.history.specs.declared.step.Step.TheVariants as step
use Rattle.monitor.specs.declared.machine.Next.TheVariants.{Waits}
use Rattle.aqs_c.specs.declared.steps.AqsStep.{AqsStep}
use Rattle.aqs_c.specs.declared.calls.AqsCall.{AqsCall}
use Rattle.aqs_c.specs.declared.answers.AqsAnswer.{AqsAnswer}

abbrev pub mode_number : Mode → ℕ
mode_number X = 0
mode_number S = 1

abbrev pub word_number : Word → ℕ
word_number word.Got = 0
word_number word.TryGot = 1
word_number word.Queued = 2
word_number word.Granted = 3
word_number word.Missed = 4
word_number word.Left = 5
word_number word.Gave = 6
word_number (word.Refused fault) = 7
word_number word.Await = 8
word_number word.Lapse = 9
word_number word.Signal = 10
word_number word.SignalAll = 11
word_number word.Back = 12
word_number word.Counted = 13
word_number word.Drained = 14

abbrev pub end_number : End → ℕ
end_number end.None = 0
end_number end.Timeout = 1
end_number end.Interrupt = 2
end_number end.Signalled = 3

-- the fault of a refusal, or 0
abbrev pub fault_in : Word → ℕ
fault_in (word.Refused fault) = fault_number fault
fault_in _ = 0

-- the step has this code, this mode and this amount
abbrev Asks : ℕ → Mode → ℕ → AqsStep → Type 0
Asks code m n c = (c.code ≡ code) × (mode_number m ≡ c.mode) × (n ≡ c.n)

-- the step has this code and is about this condition
abbrev Names : ℕ → ℕ → AqsStep → Type 0
Names code at c = (c.code ≡ code) × (at ≡ c.mode)

abbrev pub IsCodeOf : Step → AqsStep → Type 0
IsCodeOf (step.Acquire m n) c = Asks 0 m n c
IsCodeOf (step.Try m n) c = Asks 1 m n c
IsCodeOf (step.TryFair m n) c = Asks 2 m n c
IsCodeOf (step.EntryInterrupt m n) c = Asks 3 m n c
IsCodeOf (step.Give m n) c = Asks 4 m n c
IsCodeOf step.Look c = c.code ≡ 5
IsCodeOf step.Expire c = c.code ≡ 6
IsCodeOf step.Interrupt c = c.code ≡ 7
IsCodeOf (step.Await at) c = Names 8 at c
IsCodeOf (step.Signal at) c = Names 9 at c
IsCodeOf (step.SignalAll at) c = Names 10 at c
IsCodeOf step.Drain c = c.code ≡ 11

abbrev pub IsRequest : Request → AqsCall → Type 0
IsRequest (Acquire m n) c = (c.kind ≡ 0) × (mode_number m ≡ c.mode) × (n ≡ c.n)
IsRequest (AwaitOn at) c = (c.kind ≡ 1) × (at ≡ c.mode)

abbrev pub IsHow : How → AqsCall → Type 0
IsHow Plain c = c.how ≡ 0
IsHow Interruptible c = c.how ≡ 1
IsHow (Timed ms) c = (c.how ≡ 2) × (ms ≡ c.time)

-- whether an interrupt was pending; a plain call minds none
abbrev pub IsMinding : Bool → AqsCall → Type 0
IsMinding false c = c.interrupted ≡ 0
IsMinding true c = (c.interrupted ≡ 1) × ((c.how ≡ 1) ⊎ (c.how ≡ 2))

-- the numbers of a call
abbrev pub IsCallOf : Request → How → Bool → AqsCall → Type 0
IsCallOf q how was c = IsRequest q c × IsHow how c × IsMinding was c

abbrev pub IsWoke : Woke → ℕ → Type 0
IsWoke Permit number = number ≡ 0
IsWoke Deadline number = number ≡ 1
IsWoke Interrupted number = number ≡ 2

abbrev pub IsEntry : Entry → AqsAnswer → Type 0
IsEntry e a =
    (a.kind ≡ 0) × (a.n ≡ e.n) × (a.seat ≡ e.seat) × (a.word ≡ word_number e.word)
    × (a.mode ≡ mode_number e.mode) × (a.at ≡ e.at) × (a.end ≡ end_number e.end)
    × (a.fault ≡ fault_in e.word)

-- the seat that is to be unparked
abbrev pub IsNamed : Option ℕ → AqsAnswer → Type 0
IsNamed named a = (a.has_wakes ≡ is_some named) × (a.wakes ≡ unwrap_or named 0)

-- the caller owes nothing: no seat is to be unparked, no interrupt to be set again, and it doesn't park
abbrev pub IsQuiet : AqsAnswer → Type 0
IsQuiet a = IsNamed None a × (a.again ≡ false) × (a.parks ≡ false)

abbrev pub IsAnswerOf : Result Now Fault → AqsAnswer → Type 0
IsAnswerOf (Ok (Done (Recorded e named))) a = IsEntry e a × IsNamed named a × (a.again ≡ false)
IsAnswerOf (Ok (Done Sleep)) a = (a.kind ≡ 1) × IsQuiet a
IsAnswerOf (Ok Busy) a = (a.kind ≡ 3) × IsQuiet a
IsAnswerOf (Err fault) a = (a.kind ≡ 2) × (a.fault ≡ fault_number fault) × IsQuiet a

-- a step that was done at once, and the seat that it named, or one that wasn't
abbrev pub done_number : Option (Option ℕ) → ℕ
done_number None = 0
done_number (Some None) = 1
done_number (Some (Some seat)) = 2 + seat

-- whether and how the seat parks
abbrev pub IsParkOf : Option Limits → AqsAnswer → Type 0
IsParkOf None a = a.parks ≡ false
IsParkOf (Some l) a =
    (a.parks ≡ true) × (a.has_until ≡ is_some l.until) × (a.until ≡ unwrap_or l.until 0)
    × (a.interruptible ≡ l.interruptible)

-- a call that ended, or one that waits
abbrev pub IsNextOf : Next → AqsAnswer → Type 0
IsNextOf (Ends (Ok e) again) a = IsEntry e a × (a.again ≡ again)
IsNextOf (Ends (Err fault) again) a = (a.kind ≡ 2) × (a.fault ≡ fault_number fault) × (a.again ≡ again)
IsNextOf (Waits w) a = (a.kind ≡ 7) × (a.again ≡ false) × IsParkOf (limits_at w.stage w.limits) a

abbrev pub IsTurnOf : Turn → AqsAnswer → Type 0
IsTurnOf turn a = IsNextOf turn.next a × IsNamed turn.named a
