-- The one spelling of a header's object part.
use Rattle.std.specs.Prelude.{ℕ, List, [], ◌∷◌, codes, decimal}
use Rattle.std.specs.Fmt.{signed_decimal}
use Rattle.history.specs.Types.{Header, Object, Lock, ReadWrite, Semaphore, Latch, Policy, Fair, NonFair, Strict}
use Rattle.history.specs.Text.{line_of}

abbrev pub policy_word : Policy → List ℕ
policy_word Fair = codes "fair"
policy_word NonFair = codes "nonfair"
policy_word Strict = codes "strict"

-- an object with its seats, conditions and cap
abbrev pub object_words : Object → ℕ → ℕ → ℕ → List (List ℕ)
object_words (Lock policy) seats conditions cap =
    codes "lock" ∷ policy_word policy ∷ codes "seats" ∷ decimal seats
    ∷ codes "conditions" ∷ decimal conditions ∷ codes "cap" ∷ decimal cap ∷ []
object_words (ReadWrite policy) seats conditions cap =
    codes "rw" ∷ policy_word policy ∷ codes "seats" ∷ decimal seats
    ∷ codes "conditions" ∷ decimal conditions ∷ codes "cap" ∷ decimal cap ∷ []
object_words (Semaphore policy permits) seats conditions cap =
    codes "semaphore" ∷ policy_word policy ∷ codes "seats" ∷ decimal seats
    ∷ codes "permits" ∷ signed_decimal permits ∷ codes "cap" ∷ decimal cap ∷ []
object_words (Latch count) seats conditions cap =
    codes "latch" ∷ codes "seats" ∷ decimal seats ∷ codes "count" ∷ decimal count
    ∷ codes "cap" ∷ decimal cap ∷ []

abbrev pub part_words : Header → List (List ℕ)
part_words h = object_words h.object h.seats h.conditions h.cap

-- the object part of a header line
abbrev pub part_of : Header → List ℕ
part_of h = line_of (part_words h)
