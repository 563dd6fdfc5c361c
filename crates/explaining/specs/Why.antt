-- Which case decides what a step makes.
use Rattle.std.specs.Prelude.{ℕ, ◌==◌, nat_lt, Bool, ◌&&◌, ◌||◌, if◌then◌else◌, List, Option, Some, None}
use Rattle.explaining.specs.Below.{Arrival, Entry, Mode, X, Word, Got, TryGot, Queued, Granted, Missed, Back, Step, Try, held_back, try_held_back, Counts, counts, first_mode, first_of, line, place_of, is_lock, Start}
use Rattle.explaining.specs.declared.why.Why.{Why}
use Rattle.explaining.specs.declared.why.Why.TheVariants.{HeldBack, CouldNot, Again, Could, First, Behind, Cannot, Asleep, Plain}

-- a call acquired: of a lock that its seat holds already, or not
abbrev pub took_why : Counts → ℕ → Mode → Why
took_why k i m =
    if is_lock k.object && (nat_lt 0 (k.held i X) || nat_lt 0 (k.held i m)) then Again else Could

-- whether the queue holds back a step that asks for this mode
abbrev pub blocks : Counts → Option Mode → ℕ → Mode → Step → Bool
blocks k first i m (Try mode n) = try_held_back k first i m
blocks k first i m _ = held_back k first i m

-- the queue holds a call back, whose head this is
abbrev pub held_why : Option Arrival → ℕ → Why
held_why None i = HeldBack i
held_why (Some a) i = HeldBack a.seat

-- a call did not acquire: the queue held it back, or it could not
abbrev pub failed_why : Bool → Option Arrival → ℕ → Why
failed_why blocked first i = if blocked then held_why first i else CouldNot

-- a waiter in the queue isn't its head, or is and cannot go
abbrev pub turn_why : Option Arrival → ℕ → Why
turn_why None i = Asleep
turn_why (Some a) i = if a.seat == i then Cannot else Behind a.seat

-- a waiter waits on: on its condition, or in the queue
abbrev pub waits_why : Option Arrival → Option Arrival → ℕ → Why
waits_why None first i = Asleep
waits_why (Some a) first i = turn_why first i

-- why a step makes this entry, by the entry's word
abbrev pub made_why : Start → List Entry → ℕ → Step → Entry → Word → Why
made_why s h i step e Got = took_why (counts s h) i e.mode
made_why s h i step e TryGot = took_why (counts s h) i e.mode
made_why s h i step e Queued =
    failed_why (blocks (counts s h) (first_mode s h) i e.mode step) (first_of (line s h)) i
made_why s h i step e Missed =
    failed_why (blocks (counts s h) (first_mode s h) i e.mode step) (first_of (line s h)) i
made_why s h i step e Granted = First
made_why s h i step e Back = First
made_why s h i step e _ = Plain

-- why a step makes this entry, or none
abbrev pub why_of : Start → List Entry → ℕ → Step → Option Entry → Why
why_of s h i step None = waits_why (place_of i (line s h)) (first_of (line s h)) i
why_of s h i step (Some e) = made_why s h i step e e.word
