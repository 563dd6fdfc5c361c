-- The steps that may have made an entry.
use Rattle.std.specs.Prelude.{ℕ}
use Rattle.audit.specs.Below.{Entry, Mode, Word, Fault, Step, Acquire, Try, TryFair, EntryInterrupt, Give, Look, Expire, Interrupt, Await, Signal, SignalAll, Drain}
use Rattle.history.specs.declared.entry.Word.TheVariants as word
use Rattle.history.specs.declared.fault.Fault.TheVariants as fault
use Rattle.audit.specs.declared.candidates.Candidates.{Candidates}

abbrev pub only : Step → Candidates
only a = record { first = a; second = a; third = a }

abbrev pub either : Step → Step → Candidates
either a b = record { first = a; second = b; third = b }

-- no step makes a fault that isn't recorded
abbrev pub refusal_candidates : Fault → Mode → ℕ → Candidates
refusal_candidates fault.TooManyHolds m n =
    record { first = Acquire m n; second = Try m n; third = TryFair m n }
refusal_candidates fault.Interrupted m n = only (EntryInterrupt m n)
refusal_candidates fault.NotOwner m n = either (Give m n) (Await 0)
refusal_candidates fault.TooManyPermits m n = only (Give m n)
refusal_candidates fault.HoldsRead m n = only (Await 0)
refusal_candidates _ m n = only Look

abbrev pub candidates_by : Word → Mode → ℕ → ℕ → Candidates
candidates_by word.Got m n c = either (Acquire m n) (TryFair m n)
candidates_by word.TryGot m n c = only (Try m n)
candidates_by word.Queued m n c = only (Acquire m n)
candidates_by word.Granted m n c = only Look
candidates_by word.Missed m n c = either (Try m n) (TryFair m n)
candidates_by word.Left m n c = either Expire Interrupt
candidates_by word.Gave m n c = only (Give m n)
candidates_by (word.Refused f) m n c = refusal_candidates f m n
candidates_by word.Await m n c = only (Await c)
candidates_by word.Lapse m n c = either Expire Interrupt
candidates_by word.Signal m n c = only (Signal c)
candidates_by word.SignalAll m n c = only (SignalAll c)
candidates_by word.Back m n c = only Look
candidates_by word.Counted m n c = only (Give m n)
candidates_by word.Drained m n c = only Drain

abbrev pub candidates : Entry → Candidates
candidates e = candidates_by e.word e.mode e.n e.at
