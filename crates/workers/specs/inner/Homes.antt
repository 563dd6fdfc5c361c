-- The monitors and the seats of passes, in rows and in columns.
use Rattle.std.specs.Prelude.{◌≡◌, ℕ, zero, suc, List, [], ◌∷◌, ◌++◌, map}
use Rattle.workers.specs.Below.{Shown, LockId}

-- the monitor and the seat of a pass
abbrev pub home_of : Shown → LockId × ℕ
home_of p = (p.lock, p.seat)

abbrev pub homes : List Shown → List (LockId × ℕ)
homes = map home_of

abbrev pub lock_of : Shown → LockId
lock_of p = p.lock

-- the seats below n of a monitor
abbrev pub homes_below : LockId → ℕ → List (LockId × ℕ)
homes_below lock zero = []
homes_below lock (suc n) = homes_below lock n ++ (lock, n) ∷ []

-- a column for each object, with the passes of all its seats
abbrev pub HaveColumns : List LockId → List (List Shown) → Type 0
HaveColumns [] [] = Unit {0}
HaveColumns (lock ∷ locks) (column ∷ columns) =
    (homes column ≡ homes_below lock lock.header.seats) × HaveColumns locks columns
HaveColumns _ _ = ⊥
