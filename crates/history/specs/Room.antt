-- For how many entries room stays reserved, and which entries have room.
use Rattle.std.specs.Prelude.{ℕ, zero, suc, ◌+◌, ◌≤◌, nat_le, nat_lt, Bool, true, false, if◌then◌else◌, List, [], ◌∷◌, length}
use Rattle.history.specs.Types.{Arrival, Entry, X, S, Word, Object}
use Rattle.history.specs.declared.entry.Word.TheVariants as word
use Rattle.history.specs.Counts.{held, total}
use Rattle.history.specs.Line.{line}
use Rattle.history.specs.Object.{is_lock}
use Rattle.history.specs.Sleepers.{sleepers, last_sleep}
use Rattle.history.specs.Start.{Start}

-- the sum of a number over a list
abbrev pub sum_of : {A : Type 0} → (A → ℕ) → List A → ℕ
sum_of f [] = 0
sum_of f (x ∷ xs) = f x + sum_of f xs

-- one entry for each hold of a lock or read-write lock, which will be released
abbrev pub holds_owe : Start → List Entry → ℕ
holds_owe s h = if is_lock s.header.object then total s.header.seats (λ i. held s h i X + held s h i S) else 0

-- the entries of a waiter in the queue. An acquire will succeed or leave, and will release what it acquires
-- of a lock. A waiter on its way back will come back and release all its saved holds.
abbrev pub arrival_owes : Start → List Entry → Arrival → ℕ
arrival_owes s h a =
    if a.back then (last_sleep s h a.seat).holds + 1 else if is_lock s.header.object then 2 else 1

-- a waiter of a condition will lapse, come back, and release all its saved holds
abbrev pub sleeper_owes : Start → List Entry → ℕ → ℕ
sleeper_owes s h i = (last_sleep s h i).holds + 2

abbrev pub sleepers_owe : ℕ → Start → List Entry → ℕ
sleepers_owe zero s h = 0
sleepers_owe (suc c) s h = sleepers_owe c s h + sum_of (sleeper_owes s h) (sleepers s h c)

-- the entries for which room stays reserved
abbrev pub owed : Start → List Entry → ℕ
owed s h = holds_owe s h + sum_of (arrival_owes s h) (line s h) + sleepers_owe s.header.conditions s h

-- an entry has room if it fits together with all that is owed after it
abbrev pub has_room : Start → List Entry → Entry → Bool
has_room s h e = nat_le (length h + 1 + owed s (e ∷ h)) s.header.cap

-- the entries of a history, with those that it owes, fit in its cap
abbrev pub Fits : Start → List Entry → Type 0
Fits s h = length h + owed s h ≤ s.header.cap

-- How many more entries an entry reserves, and how many it releases. A hold of a lock will be released. An
-- acquire in the queue succeeds or leaves, and what it acquires will be released. A waiter of a condition
-- lapses or is signalled, and comes back.
abbrev pub reserved_by : Object → Word → ℕ
reserved_by o word.Got = if is_lock o then 1 else 0
reserved_by o word.TryGot = if is_lock o then 1 else 0
reserved_by o word.Queued = if is_lock o then 2 else 1
reserved_by o word.Await = 2
reserved_by o _ = 0

abbrev pub released_by : Object → Word → ℕ → ℕ
released_by o word.Granted n = 1
released_by o word.Left n = if is_lock o then 2 else 1
released_by o word.Gave n = if is_lock o then 1 else 0
released_by o word.Lapse n = 1
released_by o word.Signal n = n
released_by o word.SignalAll n = n
released_by o word.Back n = 1
released_by o _ n = 0

abbrev pub reserves : Object → Entry → ℕ
reserves o e = reserved_by o e.word

abbrev pub releases : Object → Entry → ℕ
releases o e = released_by o e.word e.n

-- The entries that were owed before they came: the release of a hold of a lock, the entry by which a waiter
-- goes on or leaves, and a signal that moves a waiter.
abbrev pub was_owed_by : Object → Word → ℕ → Bool
was_owed_by o word.Granted n = true
was_owed_by o word.Left n = true
was_owed_by o word.Lapse n = true
was_owed_by o word.Back n = true
was_owed_by o word.Gave n = is_lock o
was_owed_by o word.Signal n = nat_lt 0 n
was_owed_by o word.SignalAll n = nat_lt 0 n
was_owed_by o _ n = false

abbrev pub was_owed : Object → Entry → Bool
was_owed o e = was_owed_by o e.word e.n
