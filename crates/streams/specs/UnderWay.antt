-- A text that is being read: what was read of it, and what the next line spells.
use Rattle.std.specs.Prelude.{◌≡◌, ℕ, List, [], ◌++◌, length, Option, Some, None, Result, Ok, Err}
use Rattle.std.specs.Borrow.{Bor}
use Rattle.history.specs.Text.{ended}
use Rattle.streams.specs.declared.fault.TextFault.{TextFault}
use Rattle.streams.specs.Form.{Form}
use Rattle.streams.specs.Reading.{Begins, IsText, IsReading}

-- What a reader of a text knows so far: the header, how many items were read, and what else is known of them.
pub record SoFar (H I : Type 0) : Type 1 where
  pub header : H
  pub count : ℕ
  pub known : List I → Type 0

-- these items of the text were read, the oldest first, and this follows them
pub record AreRead {H I : Type 0} (form : Form H I) (text : List ℕ) (so_far : SoFar H I) (items : List I)
    (rest : List ℕ) : Type 0 where
  pub begins : Begins form text so_far.header items rest
  pub count : so_far.count ≡ length items
  pub known : so_far.known items

-- whatever items were read, the line of the next item begins the rest, and this follows it
pub record IsAhead {H I : Type 0} (form : Form H I) (so_far : SoFar H I) (rest : List ℕ) (item : I)
    (after : List ℕ) : Type 0 where
  pub fits : (items : List I) → so_far.count ≡ length items → so_far.known items →
      form.IsItem so_far.header items item
  pub parts : rest ≡ ended (form.item_line item) ++ after

-- whatever items were read, there are no more
abbrev pub AllRead : {H I : Type 0} → Form H I → List ℕ → SoFar H I → List ℕ → Type 0
AllRead {H} {I} form text so_far rest =
    (items : List I) → AreRead form text so_far items rest → IsText form text so_far.header items

-- whatever items were read, the text has this fault
abbrev pub HasFault : {H I : Type 0} → Form H I → List ℕ → SoFar H I → List ℕ → TextFault → Type 0
HasFault {H} {I} form text so_far rest fault =
    (items : List I) → AreRead form text so_far items rest → IsReading form text (Err fault)

-- what the next line spells: an item, with how many bytes are left after its line, or that there is none, or
-- a fault
abbrev pub IsLineOf : {H I : Type 0} → Form H I → List ℕ → SoFar H I → List ℕ →
    Result (Option (I × ℕ)) TextFault → Type 0
IsLineOf form text so_far rest (Ok (Some line)) =
    (after : List ℕ) × IsAhead form so_far rest line.0 after × (length after ≡ line.1)
IsLineOf form text so_far rest (Ok None) = AllRead form text so_far rest
IsLineOf form text so_far rest (Err fault) = HasFault form text so_far rest fault

-- the same for these bytes, whatever is before them
abbrev pub IsLineBehind : {H I : Type 0} → Form H I → SoFar H I → List ℕ →
    Result (Option (I × ℕ)) TextFault → Type 0
IsLineBehind form so_far rest result = (text : List ℕ) → IsLineOf form text so_far rest result

-- this is the header of the text, and this follows its line
abbrev pub IsHeaderOf : {H I : Type 0} → Form H I → List ℕ → H × Bor (List ℕ) → Type 0
IsHeaderOf form text found = Begins form text found.0 [] found.1.now
