-- The steps that a seat could take, and what each of them makes.
use Rattle.std.specs.Prelude.{ℕ, zero, suc, Bool, false, if◌then◌else◌, List, [], ◌∷◌, ◌++◌, Option, Some, None, Result, Ok, Err}
use Rattle.std.specs.List.{flat_map}
use Rattle.explaining.specs.Below.{Entry, Mode, X, S, Fault, Header, Object, Step, Acquire, Try, TryFair, EntryInterrupt, Give, Look, Expire, Interrupt, Await, Signal, SignalAll, Drain, is_semaphore, Start, entry_for}
use Rattle.history.specs.contracts.entry.EntryPartialEq.TheImpl as entries
use Rattle.explaining.specs.declared.way.Way.{Way}
use Rattle.explaining.specs.Why.{why_of}

-- the calls that ask for an amount in a mode
abbrev pub calls_in : Mode → ℕ → List Step
calls_in m n = Acquire m n ∷ Try m n ∷ TryFair m n ∷ EntryInterrupt m n ∷ Give m n ∷ []

-- the steps without an amount or a condition
abbrev pub unasked : List Step
unasked = Look ∷ Expire ∷ Interrupt ∷ Drain ∷ []

-- the calls on a condition, and on the first n
abbrev pub calls_on : ℕ → List Step
calls_on c = Await c ∷ Signal c ∷ SignalAll c ∷ []

abbrev pub calls_below : ℕ → List Step
calls_below zero = []
calls_below (suc c) = calls_below c ++ calls_on c

-- only a semaphore counts in amounts other than 1
abbrev pub asked : Object → ℕ → ℕ
asked o n = if is_semaphore o then n else 1

-- the steps of an object with one amount
abbrev pub steps_of : Header → ℕ → List Step
steps_of k n =
    ((calls_in X (asked k.object n) ++ calls_in S (asked k.object n)) ++ unasked) ++ calls_below k.conditions

-- whether two entries are the same, by the test that the program makes
abbrev pub same_entry : Entry → Entry → Bool
same_entry one other = entries.ghosts.eq one other

-- whether this entry was made
abbrev pub is_it : Option Entry → Entry → Bool
is_it None e = false
is_it (Some made) e = same_entry made e

-- a step and what it makes, with the reason; a fault that isn't recorded is no way
abbrev pub way_by : Start → List Entry → Entry → Step → Result (Option Entry) Fault → List Way
way_by s h e step (Err fault) = []
way_by s h e step (Ok made) =
    record { step = step; made = made; why = why_of s h e.seat step made; is_it = is_it made e } ∷ []

abbrev pub way_of : Start → List Entry → Entry → Step → List Way
way_of s h e step = way_by s h e step (entry_for s h e.seat step)

-- what each step of an entry's seat makes after a history
abbrev pub ways_of : Start → List Entry → Entry → List Way
ways_of s h e = flat_map (way_of s h e) (steps_of s.header e.n)
