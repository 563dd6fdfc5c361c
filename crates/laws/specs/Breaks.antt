-- Histories that violate the laws of room, permits and owners. None of them is legal.
use Rattle.std.specs.Prelude.{ℕ, zero, suc, List, [], ◌∷◌, pos}
use Rattle.laws.specs.Below.{MOST_AMOUNT, Entry, X, S, Header, Lock, ReadWrite, Semaphore, NonFair, plain}
use Rattle.history.specs.declared.entry.End.TheVariants as end
use Rattle.history.specs.declared.entry.Word.TheVariants as word
use Rattle.history.specs.declared.fault.Fault.TheVariants as fault

-- a lock of two seats with one condition, a read-write lock, and a semaphore with one permit
abbrev pub lock : Header
lock = record { object = Lock NonFair; seats = 2; conditions = 1; cap = 16 }

abbrev pub read_write : Header
read_write = record { object = ReadWrite NonFair; seats = 2; conditions = 0; cap = 16 }

abbrev pub semaphore : Header
semaphore = record { object = Semaphore NonFair (pos 1); seats = 2; conditions = 0; cap = 16 }

-- a history that is full of refused releases
abbrev pub repeated : ℕ → Entry → List Entry
repeated zero e = []
repeated (suc n) e = e ∷ repeated n e

abbrev pub full : List Entry
full = repeated 16 (plain 0 (word.Refused fault.NotOwner) X 1)

-- a seat leaves the queue that was never in it
abbrev pub leaves_unseen : Entry
leaves_unseen = record { seat = 0; word = word.Left; mode = X; n = 1; at = 0; end = end.Timeout }

-- two seats own a lock; a seat reads while another owns
abbrev pub two_owners : List Entry
two_owners = plain 1 word.Got X 1 ∷ plain 0 word.Got X 1 ∷ []

abbrev pub reader_beside_owner : List Entry
reader_beside_owner = plain 1 word.Got S 1 ∷ plain 0 word.Got X 1 ∷ []

-- a seat waits on a condition that never owned the lock
abbrev pub stranger_sleeps : List Entry
stranger_sleeps = plain 0 word.Await X 0 ∷ []

-- a permit is given up for a wait on a condition, and so is neither held nor free
abbrev pub permit_slept_away : List Entry
permit_slept_away = plain 0 word.Await S 1 ∷ plain 0 word.Got S 1 ∷ []

-- more permits than the limit are released, and more are drained
abbrev pub released_too_many : List Entry
released_too_many = plain 0 word.Gave S MOST_AMOUNT ∷ []

abbrev pub drained_too_many : List Entry
drained_too_many = plain 0 word.Drained S 3000000000 ∷ []
