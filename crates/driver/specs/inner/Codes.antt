-- Lines in three bytes: each is made of a number or a dash, and of three pieces.
use Rattle.std.specs.Prelude.{◌≡◌, ℕ, ◌+◌, ◌-◌, ◌<◌, nat_lt, ◌==◌, Bool, true, false, if◌then◌else◌, List, [], ◌∷◌, ◌++◌, length, take, drop, get_or, codes, decimal, Some, Result, Ok, Err}
use Rattle.history.specs.declared.entry.End.{End}
use Rattle.history.specs.declared.entry.End.TheVariants as end
use Rattle.history.specs.declared.entry.Mode.{Mode}
use Rattle.history.specs.declared.entry.Mode.TheVariants.{X, S}
use Rattle.history.specs.declared.entry.Word.{Word}
use Rattle.history.specs.declared.entry.Word.TheVariants.{Got, TryGot, Queued, Granted, Missed, Gave, Left, Refused}
use Rattle.history.specs.declared.fault.Fault.TheVariants.{NotOwner, OutOfPhase, NoSuchCondition, BadAmount, WrongMode}
use Rattle.history.specs.EntryWords.{spelt}
use Rattle.driver.specs.Below.{Fault, Answer, Recorded, Sleep, ended, entry_words, fault_name, line_of}
use Rattle.driver.specs.ReplayText.{answer_line, entries_of}
use Rattle.driver.specs.declared.code.Code.{Code}

-- ---- the words of each kind

-- those of an entry for 1, on no condition
abbrev pub entry_part : Mode → Word → End → List ℕ
entry_part m w e = line_of (spelt w m 1 0 e)

abbrev pub entry_rows : Mode → List (List ℕ)
entry_rows m = entry_part m Got end.None ∷ entry_part m TryGot end.None ∷ entry_part m Queued end.None
    ∷ entry_part m Granted end.None ∷ entry_part m Missed end.None ∷ entry_part m Gave end.None
    ∷ entry_part m Left end.Timeout ∷ entry_part m Left end.Interrupt
    ∷ entry_part m (Refused NotOwner) end.None ∷ []

abbrev pub rows : List (List ℕ)
rows = entry_rows X ++ (entry_rows S ++ (codes "sleep" ∷ fault_name OutOfPhase ∷ fault_name NoSuchCondition
    ∷ fault_name BadAmount ∷ fault_name WrongMode ∷ []))

-- the same letter by letter
abbrev pub written : List (List ℕ)
written = codes "got x 1" ∷ codes "trygot x 1" ∷ codes "queued x 1" ∷ codes "granted x 1" ∷ codes "missed x 1"
    ∷ codes "gave x 1" ∷ codes "left x 1 timeout" ∷ codes "left x 1 interrupt" ∷ codes "refused x 1 NotOwner"
    ∷ codes "got s 1" ∷ codes "trygot s 1" ∷ codes "queued s 1" ∷ codes "granted s 1" ∷ codes "missed s 1"
    ∷ codes "gave s 1" ∷ codes "left s 1 timeout" ∷ codes "left s 1 interrupt" ∷ codes "refused s 1 NotOwner"
    ∷ codes "sleep" ∷ codes "OutOfPhase" ∷ codes "NoSuchCondition" ∷ codes "BadAmount" ∷ codes "WrongMode" ∷ []

-- ---- the pieces of a line

abbrev pub seat_part : ℕ → List ℕ
seat_part seat = codes " " ++ decimal seat ++ codes " "

-- who is named; 255 stands for nobody
abbrev pub end_part : ℕ → List ℕ
end_part named = if named == 255 then codes "\n" else codes " wakes " ++ decimal named ++ codes "\n"

-- a piece for each seat, for each end and for each kind
abbrev pub part : ℕ → List ℕ
part number = if nat_lt number 256 then seat_part number
    else if nat_lt number 512 then end_part (number - 256)
    else get_or rows (number - 512) []

pub record AreParts (count : ℕ) (parts : List (List ℕ)) : Type 0 where
  pub long : length parts ≡ count
  pub each : (i : ℕ) → i < count → get_or parts i [] ≡ part i

-- an answer without an entry has a dash in place of a number
abbrev pub number_part : ℕ → Bool → List ℕ
number_part number is_shown = if is_shown then decimal number else codes "-"

abbrev pub code_line : ℕ → Code → List ℕ
code_line number c =
    ((number_part number (nat_lt c.kind 18) ++ part c.seat) ++ part (512 + c.kind)) ++ part (256 + c.named)

-- ---- the lines of codes

-- how many entries a code adds, and how many bytes of the lines that are kept whole it stands for
abbrev pub entries_in : Code → ℕ
entries_in c = if nat_lt c.kind 18 then 1 else if c.kind == 24 then 1 else 0

abbrev pub kept_in : Code → ℕ
kept_in c = if nat_lt c.kind 23 then 0 else c.seat

-- the next line, if these are left of the lines that are kept whole
abbrev pub line_by : ℕ → Code → List ℕ → List ℕ
line_by number c text = if nat_lt c.kind 23 then code_line number c else take c.seat text

abbrev pub lines_by : ℕ → List Code → List ℕ → List ℕ
lines_by number [] text = []
lines_by number (c ∷ cs) text = line_by number c text ++ lines_by (number + entries_in c) cs (drop (kept_in c) text)

abbrev pub entries_by : List Code → ℕ
entries_by [] = 0
entries_by (c ∷ cs) = entries_in c + entries_by cs

abbrev pub kept_by : List Code → ℕ
kept_by [] = 0
kept_by (c ∷ cs) = kept_in c + kept_by cs

-- ---- the code of an answer

abbrev pub answer_words : Result Answer Fault → List ℕ
answer_words (Ok (Recorded e named)) = line_of (entry_words e)
answer_words (Ok Sleep) = codes "sleep"
answer_words (Err fault) = fault_name fault

abbrev pub is_entry : Result Answer Fault → Bool
is_entry (Ok (Recorded e named)) = true
is_entry r = false

abbrev pub ending : Result Answer Fault → List ℕ
ending (Ok (Recorded e (Some named))) = codes " wakes " ++ decimal named ++ codes "\n"
ending r = codes "\n"

-- an entry is of this seat
abbrev pub IsOf : ℕ → Result Answer Fault → Type 0
IsOf seat (Ok (Recorded e named)) = e.seat ≡ seat
IsOf seat r = Unit {0}

pub record IsKindOf (kind seat : ℕ) (r : Result Answer Fault) : Type 0 where
  pub words : get_or rows kind [] ≡ answer_words r
  pub shown : nat_lt kind 18 ≡ is_entry r
  pub of : IsOf seat r

pub record IsCodeOf (c : Code) (seat : ℕ) (r : Result Answer Fault) : Type 0 where
  pub plain : c.kind < 23
  pub line : (number : ℕ) → code_line number c ≡ ended (answer_line number seat r)
  pub adds : entries_in c ≡ entries_of r
