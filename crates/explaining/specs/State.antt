-- Which entries can be folded into a base that was read.
use Rattle.std.specs.Prelude.{ℕ, ◌+◌, ◌*◌, nat_le, Bool, true, ◌&&◌, List}
use Rattle.std.specs.List.{list_all}
use Rattle.explaining.specs.Below.{SeatBase, Object, Lock, ReadWrite, Semaphore, Latch, MOST_AMOUNT, MOST_FOLDED, Base}

-- whether each seat holds at most so many permits
abbrev pub few_permits : ℕ → List SeatBase → Bool
few_permits most seats = list_all (λ has. nat_le has.shared most) seats

-- whether the permits of a base are at most what its entries can have moved
abbrev pub is_modest_of : Object → Base → Bool
is_modest_of (Semaphore policy permits) b =
    nat_le b.unheld (MOST_AMOUNT * b.entries) && few_permits (MOST_AMOUNT * b.entries) b.seats
is_modest_of (Lock policy) b = true
is_modest_of (ReadWrite policy) b = true
is_modest_of (Latch opening) b = true

-- whether so many entries can be folded into a base
abbrev pub fits_fold : Base → ℕ → Bool
fits_fold b count = is_modest_of b.header.object b && nat_le (b.entries + count) MOST_FOLDED
