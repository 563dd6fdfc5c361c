-- What is written, piece by piece.
use Rattle.std.proofs.Common.{Bool, true, false, take-add, ◌≡◌, ℕ, ◌+◌, ◌-◌, List, ◌++◌, length, take, drop, Option, refl, sym}
use Rattle.std.specs.Io.KnownBytes.{Appends}
use Rattle.std.proofs.lemmas.Bool.{false≢true}
use Rattle.std.proofs.KnownBytes.{Appends-trans}
use Rattle.std.proofs.lemmas.List.{take_rest}

-- a further piece is appended
pub one_more : (a b c : Option (List ℕ)) (bytes : List ℕ) (at n : ℕ) → Appends a b (take at bytes) →
    Appends b c (take n (take (length bytes - at) (drop at bytes))) → Appends a c (take (at + n) bytes)
one_more a b c bytes at n p q =
    let piece : take at bytes ++ take n (take (length bytes - at) (drop at bytes)) ≡ take (at + n) bytes =
    rw (take_rest bytes at) (sym (take-add at n bytes)) in
    rw (← piece) (Appends-trans a b c _ _ p q)

pub not_true : (b : Bool) → (b ≡ true → false ≡ true) → b ≡ false
not_true true h = absurd (false≢true (h refl))
not_true false h = refl
