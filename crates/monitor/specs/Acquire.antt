-- What an acquire records.
use Rattle.std.specs.Prelude.{◌==◌, if◌then◌else◌, ◌≡◌, ◌⊎◌, ◌≢◌, ℕ, ◌+◌, ◌-◌, ◌^◌, min, Bool, true, false, ◌∷◌, Option, Some, None, Result, Ok, Err}
use Rattle.monitor.specs.Below.{Arrival, Entry, Mode, Word, Fault, Step, Acquire, TryFair, Interrupt, EntryInterrupt, ended, Point, Deed, interrupted, showed, took_interrupt}
use Rattle.history.specs.declared.entry.End.TheVariants as end
use Rattle.history.specs.declared.entry.Word.TheVariants as word
use Rattle.history.specs.declared.fault.Fault.TheVariants as fault
use Rattle.monitor.specs.Shown.{Shown}
use Rattle.monitor.specs.Stepping.{IsFailed}
use Rattle.monitor.specs.Waits.{AfterPark, IsMade, IsLast, IsNotLost, asking}
use Rattle.monitor.specs.declared.how.How.{How}
use Rattle.monitor.specs.declared.how.How.TheVariants.{Plain, Interruptible, Timed}
use Rattle.monitor.specs.declared.waiting.Limits.{Limits}

abbrev pub is_interruptible : How → Bool
is_interruptible Plain = false
is_interruptible Interruptible = true
is_interruptible (Timed ms) = true

abbrev pub has_time : How → Type 0
has_time (Timed ms) = ms ≢ 0
has_time _ = ⊥

abbrev pub is_timed : How → Type 0
is_timed (Timed ms) = Unit {0}
is_timed _ = ⊥

-- the moment that comes this number of milliseconds after another, or the last one
abbrev pub moment_after : ℕ → ℕ → ℕ
moment_after moment ms = min (moment + ms) (2 ^ 64 - 1)

-- Whoever asked the clock for this moment had seen just so much. What it means stays hidden. So only a call that asks
-- before its first step can meet a contract that promises it of what it had seen then.
pub WasAsked : Point → ℕ → Type 0
WasAsked seen moment = Unit {0}

-- for `moment` alone
pub asked : (seen : Point) (moment : ℕ) → WasAsked seen moment
unfolding WasAsked
asked seen moment = tt

-- the clock showed the moment to one who had seen just so much
abbrev pub ShowedTo : (Deed → Type 0) → Point → ℕ → Type 0
ShowedTo did seen moment = did (showed moment) × WasAsked seen moment

-- the deadline of a call, counted from a moment that the clock showed
abbrev pub IsUntil : (Deed → Type 0) → Point → How → Option ℕ → Type 0
IsUntil did seen (Timed ms) until =
    (moment : ℕ) × ShowedTo did seen moment × (until ≡ Some (moment_after moment ms))
IsUntil did seen _ until = until ≡ None

-- how the parks of a call end that has seen just so much
pub record LimitsFor (did : Deed → Type 0) (seen : Point) (how : How) (l : Limits) : Type 0 where
  pub until : IsUntil did seen how l.until
  pub interruptible : l.interruptible ≡ is_interruptible how

abbrev pub first_step : How → Mode → ℕ → Step
first_step (Timed ms) m n = if ms == 0 then TryFair m n else Acquire m n
first_step _ m n = Acquire m n

-- a call that minds interrupts found one pending at its entry, and took it
abbrev pub WasInterrupted : (Deed → Type 0) → ℕ → How → Type 0
WasInterrupted did i how = (is_interruptible how ≡ true) × did (took_interrupt i true)

-- it found none, or it minds none
abbrev pub WasNotInterrupted : (Deed → Type 0) → ℕ → How → Type 0
WasNotInterrupted did i how = is_interruptible how ≡ true → did (took_interrupt i false)

-- The first step of a call that wasn't recorded: the one that it is for, or a refusal, since an interrupt was
-- pending, and then it is pending again.
abbrev pub IsFirst : (Deed → Type 0) → ℕ → How → Step → Step → Step → Type 0
IsFirst did i how starts refuses step =
    ((step ≡ starts) × WasNotInterrupted did i how)
    ⊎ ((step ≡ refuses) × WasInterrupted did i how × did (interrupted i))

-- a call that recorded one entry, the one of its step
pub record EndsAtOnce (did : Deed → Type 0) (old : Shown) (step : Step) (e : Entry)
    (new : Shown) : Type 0 where
  pub made : IsMade did old step e new.seen
  pub last : IsLast e new.seen
  pub mine : new.mine ≡ e ∷ old.mine

-- a call whose first step was refused and not recorded
pub record EndsUnrecorded (did : Deed → Type 0) (old : Shown) (how : How) (starts refuses : Step) (f : Fault)
    (new : Shown) : Type 0 where
  pub step : Step
  pub first : IsFirst did old.seat how starts refuses step
  pub stepped : IsFailed old step f new

-- the words that end an acquire at its first step
abbrev pub AtOnce : How → Word → Type 0
AtOnce how word.Got = Unit {0}
AtOnce how (word.Refused fault.TooManyHolds) = Unit {0}
AtOnce how word.Missed = how ≡ Timed 0
AtOnce how _ = ⊥

abbrev pub IsAtOnce : (Deed → Type 0) → ℕ → How → Mode → ℕ → Step → Word → Type 0
IsAtOnce did i how m n step w =
    ((step ≡ first_step how m n) × AtOnce how w × WasNotInterrupted did i how)
    ⊎ ((step ≡ EntryInterrupt m n) × (w ≡ word.Refused fault.Interrupted) × WasInterrupted did i how)

abbrev pub IsEndFor : How → ℕ → Arrival → Entry → Type 0
IsEndFor how i a e =
    (e ≡ ended i word.Granted a end.None)
    ⊎ ((e ≡ ended i word.Left a end.Timeout) × has_time how)
    ⊎ ((e ≡ ended i word.Left a end.Interrupt) × (is_interruptible how ≡ true))

-- A call that joined the line, and left it by the step that a park of its seat led to. An interrupt that ended the
-- park is told by the entry, or pending again.
pub record EndsInLine (did : Deed → Type 0) (old : Shown) (m : Mode) (n : ℕ) (how : How) (e : Entry)
    (new : Shown) : Type 0 where
  pub asked : first_step how m n ≡ Acquire m n
  pub not_interrupted : WasNotInterrupted did old.seat how
  pub joined : Entry
  pub queued : joined.word ≡ word.Queued
  pub joins : IsMade did old (Acquire m n) joined new.seen
  pub limits : Limits
  pub limited : LimitsFor did old.seen how limits
  pub step : Step
  pub comes : AfterPark did old.seat limits step
  pub again : step ≡ Interrupt → IsNotLost did old.seat (Ok e)
  pub made : IsMade did old step e new.seen
  pub last : IsLast e new.seen
  pub end : IsEndFor how old.seat (asking old.seat m n) e
  pub mine : new.mine ≡ e ∷ joined ∷ old.mine

-- the entries of an acquire, by its answer
abbrev pub IsAcquire : (Deed → Type 0) → Shown → Mode → ℕ → How → Result Entry Fault → Shown → Type 0
IsAcquire did old m n how (Ok e) new =
    ((step : Step) × IsAtOnce did old.seat how m n step e.word × EndsAtOnce did old step e new)
    ⊎ EndsInLine did old m n how e new
IsAcquire did old m n how (Err f) new =
    EndsUnrecorded did old how (first_step how m n) (EntryInterrupt m n) f new
