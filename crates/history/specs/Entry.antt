-- Tests on the words and modes of an entry.
use Rattle.std.specs.Prelude.{Bool, true, false}
use Rattle.history.specs.Types.{Mode, X, S, Word, Queued, Granted, Left, Await, Lapse, Back}

abbrev pub is_exclusive : Mode → Bool
is_exclusive X = true
is_exclusive S = false

abbrev pub same_mode : Mode → Mode → Bool
same_mode X X = true
same_mode S S = true
same_mode X S = false
same_mode S X = false

-- the entries by which a seat leaves the queue
abbrev pub ends_arrival : Word → Bool
ends_arrival Granted = true
ends_arrival Left = true
ends_arrival Back = true
ends_arrival _ = false

-- the entries that end a call: all but those after which the seat waits
abbrev pub ends_call : Word → Bool
ends_call Queued = false
ends_call Await = false
ends_call Lapse = false
ends_call _ = true
