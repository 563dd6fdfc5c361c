-- The entries that are marked.
use Rattle.std.specs.Prelude.{ℕ, Bool, true, false, nat_lt, if◌then◌else◌, List, [], ◌∷◌, ◌++◌, length, Option, Some, None}
use Rattle.drawing.specs.Below.{Entry, End, Word, Start}
use Rattle.history.specs.declared.entry.End.TheVariants as end
use Rattle.history.specs.declared.entry.Word.TheVariants as word
use Rattle.drawing.specs.Barging.{barges}
use Rattle.drawing.specs.declared.mark.Mark.{Mark}
use Rattle.drawing.specs.declared.mark.Sign.{Sign}
use Rattle.drawing.specs.declared.mark.Sign.TheVariants as sign

-- what a mark shows of a wait that was given up, by how it ended
abbrev pub given_up : End → Option Sign
given_up end.None = None
given_up end.Timeout = Some sign.TimedOut
given_up end.Interrupt = Some sign.Interrupted
given_up end.Signalled = None

-- what a mark shows of an entry's word and end; some words have no mark
abbrev pub sign_of : Word → End → Option Sign
sign_of word.Missed e = Some sign.Missed
sign_of (word.Refused fault) e = Some sign.Refused
sign_of word.Signal e = Some sign.Signal
sign_of word.SignalAll e = Some sign.Signal
sign_of word.Drained e = Some sign.Drained
sign_of word.Counted e = Some sign.Counted
sign_of word.Granted e = Some sign.Granted
sign_of word.Back e = Some sign.Granted
sign_of word.Left e = given_up e
sign_of word.Lapse e = given_up e
sign_of _ e = None

-- what a mark shows of an entry: that it barges, or what its word and end say
abbrev pub sign_at : Bool → Word → End → Option Sign
sign_at true w e = Some sign.Barged
sign_at false w e = sign_of w e

-- the mark of the entry of a number, if it has one
abbrev pub mark_of : ℕ → ℕ → Option Sign → List Mark
mark_of number i None = []
mark_of number i (Some s) = record { number = number; seat = i; sign = s } ∷ []

-- the marks of the entries from a number on, in their order
abbrev pub marks : Start → ℕ → List Entry → List Mark
marks s from [] = []
marks s from (e ∷ h) =
    marks s from h
    ++ (if nat_lt (length h) from then []
    else mark_of (length h) e.seat (sign_at (barges s e h) e.word e.end))
