-- The end of a line that asks for 1.
use Rattle.std.specs.Prelude.{◌≡◌, ℕ, List, [], ◌∷◌, ◌++◌, length, codes}
use Rattle.history.specs.declared.entry.Mode.{Mode}
use Rattle.history.specs.EntryWords.{mode_word}

-- a mode, 1 and a line break
abbrev pub asking_once : Mode → List ℕ
asking_once mode = mode_word mode ++ codes " 1" ++ 10 ∷ []

-- these begin the text, and this many bytes follow
abbrev pub AsksOnce : List ℕ → Mode × ℕ → Type 0
AsksOnce text found =
    (rest : List ℕ) × (text ≡ asking_once found.0 ++ rest) × (length rest ≡ found.1)
