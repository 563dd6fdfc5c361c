-- What a text of names says, line by line.
use Rattle.std.specs.Prelude.{◌≡◌, ℕ, ◌+◌, nat_lt, if◌then◌else◌, List, [], ◌∷◌, ◌++◌, length, Option, Some, None, Result, Ok, Err, ◌==◌}
use Rattle.std.specs.List.{slice_split}
use Rattle.history.specs.Reading.{◌>>=◌}
use Rattle.picture.specs.declared.naming.whom.Whom.{Whom}
use Rattle.picture.specs.declared.naming.fault.NamesFault.{NamesFault}
use Rattle.picture.specs.declared.naming.fault.NamesFault.TheVariants.{BadNaming, OutOfMemory}
use Rattle.picture.specs.Lines.{naming_of}
use Rattle.picture.specs.Names.{Given, name_of}

-- what is between the breaks of a text; the last of them has none
abbrev pub lines_in : List ℕ → List (List ℕ)
lines_in = slice_split (λ b. b == 10)

-- one more name, unless there is one already
abbrev pub with_naming : Given → Whom × List ℕ → Option Given
with_naming given naming =
    if nat_lt 0 (length (name_of given naming.0)) then None else Some (given ++ naming ∷ [])

-- what was given after one line more; the line is wrong if that is nothing
abbrev pub after_line : Given → List ℕ → Option Given
after_line given line = naming_of line >>= with_naming given

-- what the lines from this one on say, or this line is wrong
abbrev pub or_wrong : ℕ → Option Given → (Given → Result Given ℕ) → Result Given ℕ
or_wrong number None rest = Err number
or_wrong number (Some given) rest = rest given

-- What was given by the lines up to the last, from the one of this number on, or the first that is wrong. The
-- last one has no break, so it is to be empty.
abbrev pub reading_from : Given → ℕ → List (List ℕ) → Result Given ℕ
reading_from given number [] = Ok given
reading_from given number (line ∷ []) = if nat_lt 0 (length line) then Err number else Ok given
reading_from given number (line ∷ next ∷ lines) =
    or_wrong number (after_line given line) (λ more. reading_from more (number + 1) (next ∷ lines))

-- what a text says, or its first wrong line, counted from 1
abbrev pub reading : List ℕ → Result Given ℕ
reading text = reading_from [] 1 (lines_in text)

-- what a reader returns
abbrev pub NamesRead : List ℕ → Result Given NamesFault → Type 0
NamesRead text (Ok given) = reading text ≡ Ok given
NamesRead text (Err (BadNaming number)) = reading text ≡ Err number
NamesRead text (Err OutOfMemory) = Unit {0}
