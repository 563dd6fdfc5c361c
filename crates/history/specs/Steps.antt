-- What a step of a seat makes: one entry, sleep, or a fault that isn't recorded.
use Rattle.std.specs.Prelude.{ℕ, ◌==◌, nat_lt, Bool, true, false, not, if◌then◌else◌, List, length, Option, Some, None, Result, Ok, Err, ℤ, pos, ◌+ℤ◌, int_lt, nat_abs}
use Rattle.history.specs.Types.{MOST_AMOUNT, Arrival, Entry, End, Mode, X, S, Word, Fault, Object, Lock, ReadWrite, Semaphore, Latch, Step, Acquire, Try, TryFair, EntryInterrupt, Give, Look, Expire, Interrupt, Drain}
use Rattle.history.specs.declared.entry.End.TheVariants as end
use Rattle.history.specs.declared.entry.Word.TheVariants as word
use Rattle.history.specs.declared.fault.Fault.TheVariants as fault
use Rattle.history.specs.declared.step.Step.TheVariants.{Await, Signal, SignalAll}
use Rattle.history.specs.Could.{could, limit, held_back, is_seat, try_held_back}
use Rattle.history.specs.Counts.{Counts, counts, owner}
use Rattle.history.specs.Faults.{is_wrong_mode, is_no_condition, is_bad_amount}
use Rattle.history.specs.Line.{first_mode}
use Rattle.history.specs.Naming.{ready}
use Rattle.history.specs.Phase.{Phase, Idle, InLine, Sleeping, phase, suits}
use Rattle.history.specs.Sleepers.{sleepers, last_sleep}
use Rattle.history.specs.Start.{Start}

-- an entry that concerns no condition and ends no wait
abbrev pub plain : ℕ → Word → Mode → ℕ → Entry
plain i w m n = record { seat = i; word = w; mode = m; n = n; at = 0; end = end.None }

-- What an acquire, a try and a fair try make, by the counts and the mode that the head of the queue asks for.
abbrev pub acquired : Counts → Option Mode → ℕ → Mode → ℕ → Word
acquired k first i m n =
    if held_back k first i m then word.Queued
    else if limit k i m then word.Refused fault.TooManyHolds
    else if could k i m n then word.Got
    else word.Queued

abbrev pub tried : Counts → Option Mode → ℕ → Mode → ℕ → Word
tried k first i m n =
    if try_held_back k first i m then word.Missed
    else if limit k i m then word.Refused fault.TooManyHolds
    else if could k i m n then word.TryGot
    else word.Missed

abbrev pub tried_fairly : Counts → Option Mode → ℕ → Mode → ℕ → Word
tried_fairly k first i m n =
    if held_back k first i m then word.Missed
    else if limit k i m then word.Refused fault.TooManyHolds
    else if could k i m n then word.Got
    else word.Missed

-- What a release makes. A hold must be the seat's own. Permits needn't be held, but must not pass the
-- greatest number.
abbrev pub gave : Object → Counts → ℕ → Mode → ℕ → Word
gave (Lock policy) k i m n = if nat_lt 0 (k.held i m) then word.Gave else word.Refused fault.NotOwner
gave (ReadWrite policy) k i m n = if nat_lt 0 (k.held i m) then word.Gave else word.Refused fault.NotOwner
gave (Semaphore policy permits) k i m n =
    if int_lt (pos MOST_AMOUNT) (k.free +ℤ pos n) then word.Refused fault.TooManyPermits else word.Gave
gave (Latch opening) k i m n = word.Counted

-- Only the owner may await, and only without read holds. It gives up all its exclusive holds.
abbrev pub awaits : Counts → ℕ → ℕ → Entry
awaits k i c =
    if not (is_seat (owner k) i) then plain i (word.Refused fault.NotOwner) X 1
    else if nat_lt 0 (k.held i S) then plain i (word.Refused fault.HoldsRead) X 1
    else record { seat = i; word = word.Await; mode = X; n = k.held i X; at = c; end = end.None }

-- Only the owner may signal. The entry has the number of waiters that it moves.
abbrev pub signals : Counts → Word → ℕ → ℕ → ℕ → Entry
signals k w n i c =
    if not (is_seat (owner k) i) then plain i (word.Refused fault.NotOwner) X 1
    else record { seat = i; word = w; mode = X; n = n; at = c; end = end.None }

-- one if there is any
abbrev pub at_most_one : ℕ → ℕ
at_most_one n = if n == 0 then 0 else 1

-- a number below 0 counts as none
abbrev pub at_least_none : ℤ → ℕ
at_least_none z = if int_lt z (pos 0) then 0 else nat_abs z

-- the entry that a step of an idle seat makes
abbrev pub idle_entry : Start → List Entry → ℕ → Step → Entry
idle_entry s h i (Acquire m n) = plain i (acquired (counts s h) (first_mode s h) i m n) m n
idle_entry s h i (Try m n) = plain i (tried (counts s h) (first_mode s h) i m n) m n
idle_entry s h i (TryFair m n) = plain i (tried_fairly (counts s h) (first_mode s h) i m n) m n
idle_entry s h i (EntryInterrupt m n) = plain i (word.Refused fault.Interrupted) m n
idle_entry s h i (Give m n) = plain i (gave s.header.object (counts s h) i m n) m n
idle_entry s h i (Await c) = awaits (counts s h) i c
idle_entry s h i (Signal c) = signals (counts s h) word.Signal (at_most_one (length (sleepers s h c))) i c
idle_entry s h i (SignalAll c) = signals (counts s h) word.SignalAll (length (sleepers s h c)) i c
idle_entry s h i Drain = plain i word.Drained S (at_least_none (counts s h).free)
-- the steps of a waiter aren't those of an idle seat, and never come here
idle_entry s h i Look = plain i word.Missed X 1
idle_entry s h i Expire = plain i word.Missed X 1
idle_entry s h i Interrupt = plain i word.Missed X 1

-- the entry by which an acquire leaves the queue, with what it asked for
abbrev pub ended : ℕ → Word → Arrival → End → Entry
ended i w a how = record { seat = i; word = w; mode = a.mode; n = a.n; at = 0; end = how }

-- the end of an await: all holds that were given up are held again
abbrev pub back : Start → List Entry → ℕ → Entry
back s h i =
    record {
      seat = i;
      word = word.Back;
      mode = X;
      n = (last_sleep s h i).holds;
      at = (last_sleep s h i).condition;
      end = (last_sleep s h i).how;
    }

abbrev pub lapse : Start → List Entry → ℕ → End → Entry
lapse s h i how =
    record { seat = i; word = word.Lapse; mode = X; n = 0; at = (last_sleep s h i).condition; end = how }

-- what a step of an acquire in the queue makes, by whether it may go; None is sleep
abbrev pub queued_entry : Bool → ℕ → Arrival → Step → Option Entry
queued_entry true i a Look = Some (ended i word.Granted a end.None)
queued_entry false i a Look = None
queued_entry true i a Expire = Some (ended i word.Granted a end.None)
queued_entry false i a Expire = Some (ended i word.Left a end.Timeout)
queued_entry goes i a Interrupt = Some (ended i word.Left a end.Interrupt)
queued_entry goes i a _ = None

-- a waiter on its way back: each of its steps lets it come back if it may go
abbrev pub line_entry : Start → List Entry → Bool → ℕ → Arrival → Step → Option Entry
line_entry s h goes i a step =
    if a.back then (if goes then Some (back s h i) else None) else queued_entry goes i a step

abbrev pub sleeping_entry : Start → List Entry → ℕ → Step → Option Entry
sleeping_entry s h i Expire = Some (lapse s h i end.Timeout)
sleeping_entry s h i Interrupt = Some (lapse s h i end.Interrupt)
sleeping_entry s h i _ = None

abbrev pub phase_entry : Start → List Entry → ℕ → Step → Phase → Option Entry
phase_entry s h i step Idle = Some (idle_entry s h i step)
phase_entry s h i step (InLine a) = line_entry s h (is_seat (ready s h) i) i a step
phase_entry s h i step Sleeping = sleeping_entry s h i step

-- what a seat's step makes: one entry, sleep (None), or a fault that isn't recorded
abbrev pub entry_for : Start → List Entry → ℕ → Step → Result (Option Entry) Fault
entry_for s h i step =
    if is_wrong_mode s.header.object step then Err fault.WrongMode
    else if is_no_condition s.header step then Err fault.NoSuchCondition
    else if is_bad_amount s.header.object step then Err fault.BadAmount
    else if not (suits (phase s h i) step) then Err fault.OutOfPhase
    else Ok (phase_entry s h i step (phase s h i))
