-- What a line on a terminal says of how much was read, and what is written for it.
use Rattle.std.specs.Prelude.{◌≡◌, ◌⊎◌, ◌+◌, ◌-◌, ◌/◌, ◌^◌, ◌<◌, ◌≤◌, ℕ, Bool, false, List, [], ◌∷◌, ◌++◌, codes, decimal, length, min, nat_le, replicate, take, if◌then◌else◌, Option, None, Some, IsTrue}
use Rattle.std.specs.Io.KnownBytes.{Appends}
use Rattle.aqs.specs.declared.progress.Progress.{Progress}
use Rattle.streams.specs.Writing.{AppendsFront}

-- of how many megabytes, if it is known how many bytes the text has, and no more were read
abbrev pub of_all : Option ℕ → ℕ → List ℕ
of_all None read = []
of_all (Some size) read = if nat_le read size then codes " of " ++ decimal (size / 1000000) else []

-- what the line says of a text after so many bytes
abbrev pub line_text : Option ℕ → ℕ → List ℕ
line_text size read =
    codes "aqs: " ++ (decimal (read / 1000000) ++ (of_all size read ++ codes " MB read"))

-- The writer, and whether it has failed. A piece is written, or its first bytes if that fails. After a
-- failure nothing is written.
pub record Puts {E : Type 0} (held : E → Option (List ℕ)) (old : E × Bool) (piece : List ℕ) (new : E × Bool) :
    Type 0 where
  pub stopped : IsTrue old.1 → new ≡ old
  pub whole : new.1 ≡ false → Appends (held old.0) (held new.0) piece
  pub cut : old.1 ≡ false → IsTrue new.1 → AppendsFront (held old.0) (held new.0) piece

-- the pieces are written one after another
abbrev pub PutsAll : {E : Type 0} → (E → Option (List ℕ)) → E × Bool → List (List ℕ) → E × Bool → Type 0
PutsAll held old [] new = new ≡ old
PutsAll {E} held old (piece ∷ pieces) new =
    (between : E × Bool) × Puts held old piece between × PutsAll held between pieces new

-- What wipes a line that is so long: the cursor goes back, spaces are written over it, at most 60, and the
-- cursor goes back again.
abbrev pub wiping : ℕ → List (List ℕ)
wiping n = (13 ∷ []) ∷ take (min n 60) (replicate 60 32) ∷ (13 ∷ []) ∷ []

-- a line that is so long is wiped, if there is one
pub record IsWiped {E : Type 0} (held : E → Option (List ℕ)) (old : E × Bool) (n : ℕ) (new : E × Bool) : Type 0 where
  pub none : n ≡ 0 → new ≡ old
  pub some : 0 < n → PutsAll held old (wiping n) new

-- the line that stands on the terminal is wiped
pub record Wipes {E : Type 0} (held : E → Option (List ℕ)) (old new : Progress E) : Type 0 where
  pub wiped : IsWiped held old.error old.length new.error
  pub others : new ≡ record old { error = new.error; length = 0 }

-- The old line is wiped, and a line says how much was read.
pub record Shows {E : Type 0} (held : E → Option (List ℕ)) (old new : Progress E) : Type 0 where
  pub between : E × Bool
  pub wiped : IsWiped held old.error old.length between
  pub written : Puts held between (line_text old.size old.read) new.error
  pub others : new ≡ record old { error = new.error; length = length (line_text old.size old.read) }

-- that is said on a terminal alone, and not if memory lacks
abbrev pub MayShow : {E : Type 0} → (E → Option (List ℕ)) → Progress E → Progress E → Type 0
MayShow held old new = (new ≡ old) ⊎ (IsTrue old.is_shown × Shows held old new)

-- how many bytes were read with so many more, as far as 64 bits have them
abbrev pub more : ℕ → ℕ → ℕ
more read count = min (read + count) (2 ^ 64 - 1)

-- The bytes are counted. Once more bytes were read than may be read without a line, it is written, and so
-- many more may be read.
pub record Notes {E : Type 0} (held : E → Option (List ℕ)) (old : Progress E) (count : ℕ) (new : Progress E) :
    Type 0 where
  pub early : more old.read count ≤ old.next → new ≡ record old { read = more old.read count }
  pub due : old.next < more old.read count →
      MayShow held
      (record old { read = more old.read count; next = more (more old.read count) 50000000 })
      new
