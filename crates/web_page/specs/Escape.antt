-- JSON that stands in a page.
use Rattle.std.specs.Prelude.{ℕ, ◌==◌, if◌then◌else◌, List, [], ◌∷◌, codes}
use Rattle.std.specs.List.{flat_map}

-- an ampersand, an apostrophe and the signs of a tag are written by their codes
abbrev pub escaped_byte : ℕ → List ℕ
escaped_byte byte =
    if byte == 38 then codes "\\u0026" else if byte == 39 then codes "\\u0027"
    else if byte == 60 then codes "\\u003c" else if byte == 62 then codes "\\u003e" else byte ∷ []

abbrev pub escaped : List ℕ → List ℕ
escaped json = flat_map escaped_byte json
