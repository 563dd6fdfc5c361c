-- How each kind of entry changes the numbers that decide what can be acquired.
use Rattle.std.specs.Prelude.{ℕ, ◌+◌, ◌-◌, ◌==◌, ◌&&◌, if◌then◌else◌, pos, ◌+ℤ◌, ◌-ℤ◌}
use Rattle.history.specs.Types.{Mode, X, S, Object, Latch}
use Rattle.history.specs.Counts.{Counts}
use Rattle.history.specs.Entry.{same_mode}
use Rattle.history.specs.Object.{in_holds}

-- the holds, with those of one seat in one mode changed
abbrev pub holds_with : ℕ → Mode → (ℕ → ℕ) → (ℕ → Mode → ℕ) → ℕ → Mode → ℕ
holds_with i m change was j mode = if (i == j) && same_mode m mode then change (was j mode) else was j mode

-- a seat acquired n
abbrev pub took : Counts → ℕ → Mode → ℕ → Counts
took k i m n =
    record {
      object = k.object;
      seats = k.seats;
      held = holds_with i m (λ had. had + in_holds k.object n) k.held;
      free = k.free -ℤ pos n;
      count = k.count;
    }

-- a seat released n
abbrev pub gave_back : Counts → ℕ → Mode → ℕ → Counts
gave_back k i m n =
    record {
      object = k.object;
      seats = k.seats;
      held = holds_with i m (λ had. had - in_holds k.object n) k.held;
      free = k.free +ℤ pos n;
      count = k.count;
    }

-- a latch was counted down
abbrev pub counted_down : Counts → Counts
counted_down k =
    record { object = k.object; seats = k.seats; held = k.held; free = k.free; count = k.count - 1 }

-- a release of each object
abbrev pub given_of : Object → Counts → ℕ → Mode → ℕ → Counts
given_of (Latch opening) k i m n = counted_down k
given_of _ k i m n = gave_back k i m n

abbrev pub given : Counts → ℕ → Mode → ℕ → Counts
given k i m n = given_of k.object k i m n

-- a seat released all its exclusive holds to wait on a condition
abbrev pub let_go : Counts → ℕ → Counts
let_go k i =
    record {
      object = k.object;
      seats = k.seats;
      held = holds_with i X (λ had. 0) k.held;
      free = k.free;
      count = k.count;
    }

-- a seat has its exclusive holds again after an await
abbrev pub restored : Counts → ℕ → ℕ → Counts
restored k i n =
    record {
      object = k.object;
      seats = k.seats;
      held = holds_with i X (λ had. had + n) k.held;
      free = k.free;
      count = k.count;
    }

-- a seat took n, all the free permits
abbrev pub drained : Counts → ℕ → ℕ → Counts
drained k i n =
    record {
      object = k.object;
      seats = k.seats;
      held = holds_with i S (λ had. had + n) k.held;
      free = k.free -ℤ pos n;
      count = k.count;
    }
