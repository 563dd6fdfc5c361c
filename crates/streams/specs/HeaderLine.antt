-- The first line of a text: the name and version of its form, and the object part of a header.
use Rattle.std.specs.Prelude.{◌≡◌, ◌≢◌, ℕ, List, ◌∷◌, ◌++◌}
use Rattle.std.specs.Borrow.{Bor}
use Rattle.history.specs.declared.header.Header.{Header}
use Rattle.history.specs.Header.{IsInRange}
use Rattle.history.specs.Spelling.{part_of}
use Rattle.history.specs.Text.{HasNoBreak, ended}
use Rattle.streams.specs.declared.fault.TextFault.{TextFault}
use Rattle.streams.specs.declared.fault.TextFault.TheVariants.{BadHeader, BadLine, CutShort}

-- the line of this header, after the name, begins the text, and this follows it
abbrev pub BeginsWithHeader : List ℕ → List ℕ → Header × Bor (List ℕ) → Type 0
BeginsWithHeader name text found = IsInRange found.0 × (text ≡ ended (name ++ part_of found.0) ++ found.1.now)

-- the text doesn't begin with the name and a header's line: it has no whole line, or another first line
abbrev pub LacksHeader : List ℕ → List ℕ → TextFault → Type 0
LacksHeader name text CutShort = HasNoBreak text
LacksHeader name text BadHeader =
    (line : List ℕ) × (rest : List ℕ) × (text ≡ line ++ 10 ∷ rest) × HasNoBreak line
    × ((h : Header) → IsInRange h → line ≢ name ++ part_of h)
LacksHeader name text (BadLine number) = ⊥
