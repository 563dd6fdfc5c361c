-- Which texts have a form, and the first fault of a text that doesn't, line by line.
use Rattle.std.specs.Prelude.{◌≡◌, ◌≢◌, ℕ, ◌+◌, List, [], ◌∷◌, ◌++◌, length, Result, Ok, Err, ◌⊎◌}
use Rattle.streams.specs.declared.fault.TextFault.{TextFault}
use Rattle.streams.specs.declared.fault.TextFault.TheVariants.{BadHeader, BadLine, CutShort}
use Rattle.streams.specs.declared.fault.ReadFault.{ReadFault}
use Rattle.streams.specs.declared.fault.ReadFault.TheVariants.{Text, OutOfMemory}
use Rattle.history.specs.Text.{HasNoBreak, ended}
use Rattle.streams.specs.Form.{Form, lines_of, AreItems}

-- The text begins with a header and these items, and the rest follows.
pub record Begins {H I : Type 0} (form : Form H I) (text : List ℕ) (h : H) (items : List I)
    (rest : List ℕ) : Type 0 where
  pub header : form.IsHeader h
  pub each : AreItems form h [] items
  pub parts : text ≡ ended (form.header_line h) ++ (lines_of form items ++ rest)

-- The text is the one spelling of a header and items.
pub record IsText {H I : Type 0} (form : Form H I) (text : List ℕ) (h : H) (items : List I) : Type 0 where
  pub begins : Begins form text h items (ended (form.end_line items))
  pub ends : form.MayEnd h items

-- Its last line is not whole, and no end line came before.
abbrev pub IsCutShort : {H I : Type 0} → Form H I → List ℕ → Type 0
IsCutShort {H} {I} form text =
    HasNoBreak text ⊎ ((h : H) × (items : List I) × (rest : List ℕ) × Begins form text h items rest ×
    HasNoBreak rest)

-- Its first line is no header line.
abbrev pub HasBadHeader : {H I : Type 0} → Form H I → List ℕ → Type 0
HasBadHeader {H} form text =
    (line : List ℕ) × (rest : List ℕ) × (text ≡ line ++ 10 ∷ rest) × HasNoBreak line
    × ((h : H) → form.IsHeader h → line ≢ form.header_line h)

-- After these items this line is neither an item nor the right end line.
pub record IsBadLine {H I : Type 0} (form : Form H I) (h : H)
    (items : List I) (line : List ℕ) : Type 0 where
  pub whole : HasNoBreak line
  pub no_item : (x : I) → form.IsItem h items x → line ≢ form.item_line x
  pub no_end : form.MayEnd h items → line ≢ form.end_line items

-- The lines before this number, counted from 1, are good, and this one isn't, or follows the end line.
abbrev pub HasBadLine : {H I : Type 0} → Form H I → List ℕ → ℕ → Type 0
HasBadLine {H} {I} form text number =
    ((h : H) × (items : List I) × (line : List ℕ) × (rest : List ℕ)
    × Begins form text h items (line ++ 10 ∷ rest)
    × IsBadLine form h items line × (number ≡ length items + 2))
    ⊎ ((h : H) × (items : List I) × (rest : List ℕ)
    × Begins form text h items (ended (form.end_line items) ++ rest) × form.MayEnd h items
    × (rest ≢ []) × (number ≡ length items + 3))

-- what a text spells, or its first fault
abbrev pub Reading : Type 0 → Type 0 → Type 0
Reading H I = Result (H × List I) TextFault

abbrev pub IsReading : {H I : Type 0} → Form H I → List ℕ → Reading H I → Type 0
IsReading form text (Ok said) = IsText form text said.0 said.1
IsReading form text (Err CutShort) = IsCutShort form text
IsReading form text (Err BadHeader) = HasBadHeader form text
IsReading form text (Err (BadLine number)) = HasBadLine form text number

-- what a call returns that keeps what it reads: this is right, or this is the first fault of the text, or an
-- allocation failed
abbrev pub Reads : {H I T : Type 0} → Form H I → (T → Type 0) → List ℕ → Result T ReadFault → Type 0
Reads form Keeps text (Ok kept) = Keeps kept
Reads form Keeps text (Err (Text fault)) = IsReading form text (Err fault)
Reads form Keeps text (Err OutOfMemory) = Unit {0}
