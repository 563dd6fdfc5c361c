-- The replies to a list of steps, with short names for the steps and the replies.
use Rattle.std.specs.Prelude.{ℕ, List, [], length, Some, None, Result, Ok, Err, ℤ}
use Rattle.laws.specs.Below.{End, Entry, X, S, Word, Fault, Header, Policy, Answer, Step, results, free, held, total, unheld, calls, created, opening, plain}
use Rattle.history.specs.declared.entry.End.TheVariants as end
use Rattle.history.specs.declared.entry.Word.TheVariants as word
use Rattle.history.specs.declared.header.Object.TheVariants as object
use Rattle.history.specs.declared.step.Answer.TheVariants as answer
use Rattle.history.specs.declared.step.Step.TheVariants as step

infixl 70 ◌wakes◌
abbrev Reply : Type 0
Reply = Result Answer Fault

-- the replies to a list of steps of an object as opened, the number of entries, and the number of calls
abbrev pub replies : Header → List (ℕ × Step) → List Reply × ℕ × ℕ
replies k steps =
    let done = results (opening k) [] steps in
    (done.0, length done.1, calls (opening k) done.1)

-- The permits at the end of a list of steps.
pub record Permits : Type 0 where
  pub held : ℕ
  pub free : ℤ
  pub created : ℤ
  pub unheld : ℕ

abbrev pub permits : Header → List (ℕ × Step) → Permits
permits k steps =
    let h = (results (opening k) [] steps).1 in
    record {
      held = total k.seats (λ seat. held (opening k) h seat S);
      free = free (opening k) h;
      created = created k.object;
      unheld = unheld (opening k) h;
    }

-- objects with their seats, conditions where they have some, and the greatest number of entries
abbrev pub lock : Policy → ℕ → ℕ → ℕ → Header
lock p seats conditions cap =
    record { object = object.Lock p; seats = seats; conditions = conditions; cap = cap }

abbrev pub read_write : Policy → ℕ → ℕ → ℕ → Header
read_write p seats conditions cap =
    record { object = object.ReadWrite p; seats = seats; conditions = conditions; cap = cap }

abbrev pub semaphore : Policy → ℤ → ℕ → ℕ → Header
semaphore p permits seats cap =
    record { object = object.Semaphore p permits; seats = seats; conditions = 0; cap = cap }

abbrev pub latch : ℕ → ℕ → ℕ → Header
latch count seats cap = record { object = object.Latch count; seats = seats; conditions = 0; cap = cap }

-- steps, of a lock where no amount is given
abbrev pub acquire : Step
acquire = step.Acquire X 1

abbrev pub try : Step
try = step.Try X 1

abbrev pub try_fair : Step
try_fair = step.TryFair X 1

abbrev pub give : Step
give = step.Give X 1

abbrev pub acquire_shared : ℕ → Step
acquire_shared n = step.Acquire S n

abbrev pub try_shared : ℕ → Step
try_shared n = step.Try S n

abbrev pub try_fair_shared : ℕ → Step
try_fair_shared n = step.TryFair S n

abbrev pub give_shared : ℕ → Step
give_shared n = step.Give S n

abbrev pub look : Step
look = step.Look

abbrev pub expire : Step
expire = step.Expire

abbrev pub interrupt : Step
interrupt = step.Interrupt

abbrev pub await : ℕ → Step
await c = step.Await c

abbrev pub signal : ℕ → Step
signal c = step.Signal c

abbrev pub signal_all : ℕ → Step
signal_all c = step.SignalAll c

abbrev pub drain : Step
drain = step.Drain

-- ends of waits
abbrev pub timeout : End
timeout = end.Timeout

abbrev pub interrupted : End
interrupted = end.Interrupt

abbrev pub signalled : End
signalled = end.Signalled

-- an entry that names nobody, and one that names a seat
abbrev entered : Entry → Reply
entered e = Ok (answer.Recorded e None)

abbrev pub ◌wakes◌ : Reply → ℕ → Reply
◌wakes◌ (Ok (answer.Recorded e _)) seat = Ok (answer.Recorded e (Some seat))
◌wakes◌ reply seat = reply

abbrev pub sleeps : Reply
sleeps = Ok answer.Sleep

abbrev pub fault : Fault → Reply
fault f = Err f

-- entries, of a lock where no amount is given
abbrev of_lock : ℕ → Word → Reply
of_lock seat w = entered (plain seat w X 1)

abbrev of_shared : ℕ → Word → ℕ → Reply
of_shared seat w n = entered (plain seat w S n)

abbrev on_condition : ℕ → Word → ℕ → ℕ → End → Reply
on_condition seat w c n how = entered (record { seat = seat; word = w; mode = X; n = n; at = c; end = how })

abbrev pub got : ℕ → Reply
got seat = of_lock seat word.Got

abbrev pub try_got : ℕ → Reply
try_got seat = of_lock seat word.TryGot

abbrev pub queued : ℕ → Reply
queued seat = of_lock seat word.Queued

abbrev pub granted : ℕ → Reply
granted seat = of_lock seat word.Granted

abbrev pub missed : ℕ → Reply
missed seat = of_lock seat word.Missed

abbrev pub gave : ℕ → Reply
gave seat = of_lock seat word.Gave

abbrev pub refused : ℕ → Fault → Reply
refused seat f = of_lock seat (word.Refused f)

abbrev pub left : ℕ → End → Reply
left seat how = entered (record { seat = seat; word = word.Left; mode = X; n = 1; at = 0; end = how })

abbrev pub got_shared : ℕ → ℕ → Reply
got_shared seat n = of_shared seat word.Got n

abbrev pub try_got_shared : ℕ → ℕ → Reply
try_got_shared seat n = of_shared seat word.TryGot n

abbrev pub queued_shared : ℕ → ℕ → Reply
queued_shared seat n = of_shared seat word.Queued n

abbrev pub granted_shared : ℕ → ℕ → Reply
granted_shared seat n = of_shared seat word.Granted n

abbrev pub missed_shared : ℕ → ℕ → Reply
missed_shared seat n = of_shared seat word.Missed n

abbrev pub gave_shared : ℕ → ℕ → Reply
gave_shared seat n = of_shared seat word.Gave n

abbrev pub refused_shared : ℕ → ℕ → Fault → Reply
refused_shared seat n f = of_shared seat (word.Refused f) n

abbrev pub counted : ℕ → Reply
counted seat = of_shared seat word.Counted 1

abbrev pub drained : ℕ → ℕ → Reply
drained seat n = of_shared seat word.Drained n

-- entries on a condition: with the holds given up, the sleepers moved, the holds restored
abbrev pub awaits : ℕ → ℕ → ℕ → Reply
awaits seat c n = on_condition seat word.Await c n end.None

abbrev pub signals : ℕ → ℕ → ℕ → Reply
signals seat c n = on_condition seat word.Signal c n end.None

abbrev pub lapses : ℕ → ℕ → End → Reply
lapses seat c how = on_condition seat word.Lapse c 0 how

abbrev pub comes_back : ℕ → ℕ → ℕ → End → Reply
comes_back seat c n how = on_condition seat word.Back c n how
