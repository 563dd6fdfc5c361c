-- Who sleeps, as a base says.
use Rattle.std.specs.Prelude.{ℕ, List, map}
use Rattle.history.specs.Base.{Base, sleepers_of}

-- the seats that sleep on a condition
abbrev pub sleeping_seats : Base → ℕ → List ℕ
sleeping_seats b c = map (λ x. x.seat) (sleepers_of b c)
