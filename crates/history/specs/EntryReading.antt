-- What the readers of an entry return: what they read, and the words that are left.
use Rattle.std.specs.Prelude.{ℕ, List, [], ◌∷◌, Option, None, Some, codes, bytes_eq, if◌then◌else◌}
use Rattle.history.specs.Types.{LAST_CONDITION, MOST_AMOUNT, Entry, End, Mode, X, S, Word, Fault}
use Rattle.history.specs.Reading.{Words, ◌>>=◌, keyword_at, number_at, mode_at}
use Rattle.history.specs.declared.entry.End.TheVariants as end
use Rattle.history.specs.declared.entry.Word.TheVariants as word
use Rattle.history.specs.declared.fault.Fault.TheVariants as fault

-- how an acquire gave up
abbrev pub given_up_at : Words → Option (End × Words)
given_up_at [] = None
given_up_at (w ∷ ws) = if bytes_eq w (codes "timeout") then Some (end.Timeout, ws)
    else if bytes_eq w (codes "interrupt") then Some (end.Interrupt, ws)
    else None

-- how an await ended
abbrev pub come_back_at : Words → Option (End × Words)
come_back_at [] = None
come_back_at (w ∷ ws) = if bytes_eq w (codes "signalled") then Some (end.Signalled, ws)
    else if bytes_eq w (codes "timeout") then Some (end.Timeout, ws)
    else if bytes_eq w (codes "interrupt") then Some (end.Interrupt, ws)
    else None

-- a fault that is recorded
abbrev pub recorded_at : Words → Option (Fault × Words)
recorded_at [] = None
recorded_at (w ∷ ws) = if bytes_eq w (codes "NotOwner") then Some (fault.NotOwner, ws)
    else if bytes_eq w (codes "TooManyHolds") then Some (fault.TooManyHolds, ws)
    else if bytes_eq w (codes "TooManyPermits") then Some (fault.TooManyPermits, ws)
    else if bytes_eq w (codes "Interrupted") then Some (fault.Interrupted, ws)
    else if bytes_eq w (codes "HoldsRead") then Some (fault.HoldsRead, ws)
    else None

-- a mode and an amount
unfoldable pub asked_at : Words → Option ((Mode × ℕ) × Words)
asked_at words = do
  m ← mode_at words
  n ← number_at 0 MOST_AMOUNT m.1
  Some ((m.0, n.0), n.1)

-- a condition, and one with an amount
unfoldable pub condition_at : Words → Option (ℕ × Words)
condition_at words = number_at 0 LAST_CONDITION words

unfoldable pub sleepers_at : Words → Option ((ℕ × ℕ) × Words)
sleepers_at words = do
  c ← condition_at words
  n ← number_at 0 MOST_AMOUNT c.1
  Some ((c.0, n.0), n.1)

-- the entries with a mode and an amount, and those with a condition and an amount
abbrev pub in_mode : ℕ → Word → Mode × ℕ → Entry
in_mode seat word asked =
    record { seat = seat; word = word; mode = asked.0; n = asked.1; at = 0; end = end.None }

abbrev pub on_condition : ℕ → Word → ℕ × ℕ → Entry
on_condition seat word slept =
    record { seat = seat; word = word; mode = X; n = slept.1; at = slept.0; end = end.None }

abbrev pub asking : ℕ → Word → Words → Option (Entry × Words)
asking seat word words = asked_at words >>= λ a. Some (in_mode seat word a.0, a.1)

abbrev pub waking : ℕ → Word → Words → Option (Entry × Words)
waking seat word words = sleepers_at words >>= λ s. Some (on_condition seat word s.0, s.1)

unfoldable pub left_at : ℕ → Words → Option (Entry × Words)
left_at seat words = do
  a ← asked_at words
  e ← given_up_at a.1
  Some (record { seat = seat; word = word.Left; mode = a.0.0; n = a.0.1; at = 0; end = e.0 }, e.1)

unfoldable pub refused_at : ℕ → Words → Option (Entry × Words)
refused_at seat words = do
  a ← asked_at words
  f ← recorded_at a.1
  Some (in_mode seat (word.Refused f.0) a.0, f.1)

unfoldable pub lapse_at : ℕ → Words → Option (Entry × Words)
lapse_at seat words = do
  c ← condition_at words
  e ← given_up_at c.1
  Some (record { seat = seat; word = word.Lapse; mode = X; n = 0; at = c.0; end = e.0 }, e.1)

unfoldable pub back_at : ℕ → Words → Option (Entry × Words)
back_at seat words = do
  s ← sleepers_at words
  e ← come_back_at s.1
  Some (record { seat = seat; word = word.Back; mode = X; n = s.0.1; at = s.0.0; end = e.0 }, e.1)

-- an entry of an object that has shared mode alone, with an amount in this range
unfoldable pub shared_at : ℕ → Word → ℕ → ℕ → Words → Option (Entry × Words)
shared_at seat word least most words = do
  s ← keyword_at (codes "s") words
  n ← number_at least most s.1
  Some (in_mode seat word (S, n.0), n.1)

-- the rest of a seat's entry, after its name
unfoldable pub named_entry_at : ℕ → List ℕ → Words → Option (Entry × Words)
named_entry_at seat w ws = if bytes_eq w (codes "left") then left_at seat ws
    else if bytes_eq w (codes "refused") then refused_at seat ws
    else if bytes_eq w (codes "await") then waking seat word.Await ws
    else if bytes_eq w (codes "lapse") then lapse_at seat ws
    else if bytes_eq w (codes "signal") then waking seat word.Signal ws
    else if bytes_eq w (codes "signalall") then waking seat word.SignalAll ws
    else if bytes_eq w (codes "back") then back_at seat ws
    else if bytes_eq w (codes "counted") then shared_at seat word.Counted 1 1 ws
    else if bytes_eq w (codes "drained") then shared_at seat word.Drained 0 MOST_AMOUNT ws
    else None

-- an entry of a seat
unfoldable pub entry_at : ℕ → Words → Option (Entry × Words)
entry_at seat [] = None
entry_at seat (w ∷ ws) = if bytes_eq w (codes "got") then asking seat word.Got ws
    else if bytes_eq w (codes "trygot") then asking seat word.TryGot ws
    else if bytes_eq w (codes "queued") then asking seat word.Queued ws
    else if bytes_eq w (codes "granted") then asking seat word.Granted ws
    else if bytes_eq w (codes "missed") then asking seat word.Missed ws
    else if bytes_eq w (codes "gave") then asking seat word.Gave ws
    else named_entry_at seat w ws
