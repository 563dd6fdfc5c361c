-- Spoilt bases: each lacks something that its entries left, and a next entry shows it.
use Rattle.std.specs.Prelude.{List, [], ◌∷◌, map, pos, reverse}
use Rattle.laws.specs.Below.{SeatBase, Entry, X, S, Latch, Lock, ReadWrite, Semaphore, Fair, NonFair, Base, folded, opening_base, plain}
use Rattle.history.specs.declared.entry.End.TheVariants as end
use Rattle.history.specs.declared.entry.Word.TheVariants as word
use Rattle.laws.specs.OutOfTurn.{of}

-- A lock of three seats with a condition: seat 0 waits there, and seat 1 owns and signals.
abbrev pub opened_lock : Base
opened_lock = opening_base (record { object = Lock Fair; seats = 3; conditions = 1; cap = 64 })

abbrev pub slept : List Entry
slept =
    of 1 word.Got ∷ record { seat = 0; word = word.Await; mode = X; n = 1; at = 0; end = end.None } ∷ of 0
    word.Got ∷ []

abbrev pub moved : List Entry
moved = record { seat = 1; word = word.Signal; mode = X; n = 1; at = 0; end = end.None } ∷ []

abbrev pub forgets_a_sleeper : Base
forgets_a_sleeper = record (folded opened_lock slept) { sleepers = [] ∷ [] }

-- Seats 1 and 2 are in the queue, and the owner released.
abbrev pub two_in_line : List Entry
two_in_line = of 0 word.Gave ∷ of 2 word.Queued ∷ of 1 word.Queued ∷ of 0 word.Got ∷ []

abbrev pub granted_first : List Entry
granted_first = of 1 word.Granted ∷ []

abbrev pub reverses_its_line : Base
reverses_its_line =
    record (folded opened_lock two_in_line) { line = reverse (folded opened_lock two_in_line).line }

-- A reader.
abbrev pub opened_read_write : Base
opened_read_write = opening_base (record { object = ReadWrite NonFair; seats = 2; conditions = 0; cap = 64 })

abbrev pub read_held : List Entry
read_held = plain 0 word.Got S 1 ∷ []

abbrev pub gave_a_read : List Entry
gave_a_read = plain 0 word.Gave S 1 ∷ []

abbrev pub without_shared : SeatBase → SeatBase
without_shared has = record has { shared = 0 }

abbrev pub forgets_a_read : Base
forgets_a_read =
    record (folded opened_read_write read_held) {
      seats = map without_shared (folded opened_read_write read_held).seats;
    }

-- A semaphore without permits: one is released by a seat that has none, and acquired.
abbrev pub opened_semaphore : Base
opened_semaphore =
    opening_base (record { object = Semaphore NonFair (pos 0); seats = 2; conditions = 0; cap = 64 })

abbrev pub released_unheld : List Entry
released_unheld = plain 0 word.Gave S 1 ∷ []

abbrev pub took_a_permit : List Entry
took_a_permit = plain 1 word.Got S 1 ∷ []

abbrev pub forgets_a_permit : Base
forgets_a_permit = record (folded opened_semaphore released_unheld) { unheld = 0 }

-- A latch that was counted down, and is open.
abbrev pub opened_latch : Base
opened_latch = opening_base (record { object = Latch 1; seats = 2; conditions = 0; cap = 64 })

abbrev pub counted_out : List Entry
counted_out = plain 0 word.Counted S 1 ∷ []

abbrev pub passes : List Entry
passes = plain 1 word.Got S 1 ∷ []

abbrev pub forgets_the_count : Base
forgets_the_count = record (folded opened_latch counted_out) { count = 1 }

-- A seat that the object lacks acquires: the entry is legal, but a base has no place for its result.
abbrev pub opened_for_one : Base
opened_for_one = opening_base (record { object = Lock Fair; seats = 1; conditions = 0; cap = 64 })

abbrev pub taken_by_nobody : List Entry
taken_by_nobody = of 1 word.Got ∷ []
