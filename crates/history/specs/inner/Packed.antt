-- An entry in eight bytes: its word, mode and end are one number.
use Rattle.std.specs.Prelude.{ℕ, ◌/◌, ◌%◌, List, [], ◌∷◌, get_or}
use Rattle.history.specs.Prelude.{Entry, Mode, X, S}
use Rattle.history.specs.declared.entry.End.{End}
use Rattle.history.specs.declared.entry.End.TheVariants as end
use Rattle.history.specs.declared.entry.Word.{Word}
use Rattle.history.specs.declared.entry.Word.TheVariants.{Got, TryGot, Queued, Granted, Missed, Left, Gave, Refused, Await, Lapse, Signal, SignalAll, Back, Counted, Drained}
use Rattle.history.specs.declared.fault.Fault.TheVariants.{NotOwner, TooManyHolds, TooManyPermits, Interrupted, HoldsRead, OutOfPhase, NoSuchCondition, BadAmount, WrongMode, HistoryFull, OutOfMemory, TrimFull}

-- the words in the order of their numbers
abbrev pub words : List Word
words = Got ∷ TryGot ∷ Queued ∷ Granted ∷ Missed ∷ Left ∷ Gave ∷ Await ∷ Lapse ∷ Signal ∷ SignalAll ∷ Back ∷ Counted
    ∷ Drained ∷ Refused NotOwner ∷ Refused TooManyHolds ∷ Refused TooManyPermits ∷ Refused Interrupted ∷ Refused HoldsRead
    ∷ Refused OutOfPhase ∷ Refused NoSuchCondition ∷ Refused BadAmount ∷ Refused WrongMode ∷ Refused HistoryFull
    ∷ Refused OutOfMemory ∷ Refused TrimFull ∷ []

abbrev pub modes : List Mode
modes = X ∷ S ∷ []

abbrev pub ends : List End
ends = end.None ∷ end.Timeout ∷ end.Interrupt ∷ end.Signalled ∷ []

-- the entry that these numbers stand for
abbrev pub unpacked : ℕ → ℕ → ℕ → ℕ → Entry
unpacked n seat kind at = record {
  n = n;
  seat = seat;
  word = get_or words (kind / 8) Got;
  mode = get_or modes (kind / 4 % 2) X;
  at = at;
  end = get_or ends (kind % 4) end.None;
}
