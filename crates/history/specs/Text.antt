-- Lines of a text and their words.
use Rattle.std.specs.Prelude.{◌≢◌, ℕ, List, [], ◌∷◌, ◌++◌, All, Option, None, Some, ◌==◌}
use Rattle.std.specs.List.{slice_split, join_with_byte}
use Rattle.std.specs.Borrow.{Bor}

-- no line break is in it
abbrev pub HasNoBreak : List ℕ → Type 0
HasNoBreak bytes = All (λ b. b ≢ 10) bytes

-- a line with its break
abbrev pub ended : List ℕ → List ℕ
ended line = line ++ 10 ∷ []

-- words with one space between each two
abbrev pub line_of : List (List ℕ) → List ℕ
line_of = join_with_byte 32

-- a line, cut at each space
abbrev pub words_of : List ℕ → List (List ℕ)
words_of = slice_split (λ b. b == 32)

-- the words that a cursor has still to give
abbrev pub words_left : Option (Bor (List ℕ)) → List (List ℕ)
words_left None = []
words_left (Some rest) = words_of rest.now
