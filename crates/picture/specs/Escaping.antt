-- The names of seats and conditions between the tags of a picture.
use Rattle.std.specs.Prelude.{ℕ, ◌==◌, if◌then◌else◌, List, ◌∷◌, [], ◌++◌, codes, decimal, length}
use Rattle.std.specs.List.{flat_map}
use Rattle.picture.specs.declared.naming.whom.Whom.{Whom}
use Rattle.picture.specs.Names.{Given, name_of}

-- a byte of a name between tags: one that could begin a tag or an entity is written by its entity
abbrev pub escaped_byte : ℕ → List ℕ
escaped_byte byte =
    if byte == 38 then codes "&amp;" else if byte == 60 then codes "&lt;" else if byte == 62 then codes "&gt;"
    else byte ∷ []

abbrev pub escaped : List ℕ → List ℕ
escaped name = flat_map escaped_byte name

-- a number behind some words, with a name if there is one
abbrev pub told : List ℕ → ℕ → List ℕ → List ℕ
told words number name =
    if length name == 0 then words ++ decimal number
    else words ++ decimal number ++ codes " (" ++ escaped name ++ codes ")"

-- the number of a seat or a condition, with the name that it was given
abbrev pub told_of : Given → List ℕ → ℕ → Whom → List ℕ
told_of names words number whom = told words number (name_of names whom)
