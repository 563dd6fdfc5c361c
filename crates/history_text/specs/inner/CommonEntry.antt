-- The most frequent lines of entries: those with amount 1.
use Rattle.std.specs.Prelude.{◌≡◌, ℕ, List, [], ◌++◌, length, codes}
use Rattle.history_text.specs.Below.{Entry, Word, IsWritten, entry_words, ended, line_of}
use Rattle.history.specs.declared.entry.Word.TheVariants as word

-- the name of a word that only a mode and an amount follow
abbrev pub asked_name : Word → List ℕ
asked_name word.Got = codes "got"
asked_name word.TryGot = codes "trygot"
asked_name word.Queued = codes "queued"
asked_name word.Granted = codes "granted"
asked_name word.Missed = codes "missed"
asked_name word.Gave = codes "gave"
asked_name _ = []

-- the words of an entry and a line break begin the text, and this many bytes follow
abbrev pub BeginsWith : List ℕ → Entry × ℕ → Type 0
BeginsWith text found =
    IsWritten found.0 × ((rest : List ℕ) × (text ≡ ended (line_of (entry_words found.0)) ++ rest)
    × (length rest ≡ found.1))
