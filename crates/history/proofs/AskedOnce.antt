-- What is asked for most is told in one piece.
use Rattle.std.proofs.Common.{◌≡◌, ℕ, List, ◌∷◌, ◌++◌, codes, decimal, sym, arith}
use Rattle.std.proofs.lemmas.Fmt.{decimal_digit}
use Rattle.history.specs.Prelude.{Mode, X, mode_word}

pub asked_once : (name once : List ℕ) (mode : Mode) (n : ℕ) → once ≡ name ++ codes " x 1" → mode ≡ X →
    n ≡ 1 → name ++ 32 ∷ (mode_word mode ++ 32 ∷ decimal n) ≡ once
asked_once name once mode n is x one = rw (x, one, decimal_digit 1 (omega arith)) (sym is)
