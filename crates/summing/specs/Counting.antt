-- What is counted of a list of entries.
use Rattle.std.specs.Prelude.{ℕ, ◌+◌, ◌==◌, Bool, true, false, ◌&&◌, ◌||◌, if◌then◌else◌, List, [], ◌∷◌}
use Rattle.summing.specs.Below.{Entry, End, Word, Fault, ends_call}
use Rattle.history.specs.declared.entry.End.TheVariants as end
use Rattle.history.specs.declared.entry.Word.TheVariants as word
use Rattle.history.specs.declared.fault.Fault.TheVariants as fault

-- one more, if there is one more
abbrev pub more : ℕ → Bool → ℕ
more n b = if b then n + 1 else n

-- how many entries pass a test
abbrev pub count : (Entry → Bool) → List Entry → ℕ
count test [] = 0
count test (e ∷ h) = more (count test h) (test e)

-- an acquire that took at once
abbrev pub is_take : Word → Bool
is_take word.Got = true
is_take word.TryGot = true
is_take _ = false

-- an acquire that began to wait in the queue
abbrev pub is_queued : Word → Bool
is_queued word.Queued = true
is_queued _ = false

-- an acquire that waited, and to which the object was handed over
abbrev pub is_grant : Word → Bool
is_grant word.Granted = true
is_grant _ = false

abbrev pub is_await : Word → Bool
is_await word.Await = true
is_await _ = false

abbrev pub is_signal : Word → Bool
is_signal word.Signal = true
is_signal word.SignalAll = true
is_signal _ = false

abbrev pub is_timeout : End → Bool
is_timeout end.Timeout = true
is_timeout _ = false

abbrev pub is_interrupt : End → Bool
is_interrupt end.Interrupt = true
is_interrupt _ = false

-- a call that was refused since an interrupt was pending at its entry
abbrev pub is_interrupted : Fault → Bool
is_interrupted fault.Interrupted = true
is_interrupted _ = false

abbrev pub is_refused_by_interrupt : Word → Bool
is_refused_by_interrupt (word.Refused f) = is_interrupted f
is_refused_by_interrupt _ = false

-- the end of a call by a timeout, and by an interrupt
abbrev pub times_out : Entry → Bool
times_out e = ends_call e.word && is_timeout e.end

abbrev pub is_broken_off : Entry → Bool
is_broken_off e = ends_call e.word && (is_interrupt e.end || is_refused_by_interrupt e.word)

-- an entry of a seat that passes a test on it
abbrev pub of_seat : ℕ → (Entry → Bool) → Entry → Bool
of_seat i test e = (e.seat == i) && test e

-- an entry on a condition that passes a test on it; the test is of words that concern a condition
abbrev pub on_condition : ℕ → (Entry → Bool) → Entry → Bool
on_condition c test e = (e.at == c) && test e

-- a signal that found no waiter
abbrev pub moves_nobody : Entry → Bool
moves_nobody e = is_signal e.word && (e.n == 0)
