-- A receipt after those that wait.
use Rattle.std.proofs.Common.{◌≡◌, ◌+◌, ℕ, suc, List, [], ◌∷◌, ◌++◌, length, arith}
use Rattle.boxcar.specs.Table.{Shelves, Shows, Where}
use Rattle.example_guards.specs.Places.{AreNext}

pub are_next_with :
    (table : Shelves) (place : ℕ) (waiting : List (Where ℕ)) (last : Where ℕ) → AreNext table place waiting →
    last.index ≡ place + length waiting → Shows table last → AreNext table place (waiting ++ last ∷ [])
are_next_with table place [] last next at shows = (omega (arith, at), shows, tt)
are_next_with table place (r ∷ rs) last next at shows =
    (next.0, next.1, are_next_with table (suc place) rs last next.2 (omega (arith, at)) shows)
