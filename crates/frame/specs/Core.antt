-- A core as its callers see it, and how its fields represent that.
use Rattle.std.specs.Prelude.{
  ◌≡◌,
  Bool,
  ◌⊎◌,
  ◌≤◌,
  ◌<◌,
  ℕ,
  ◌+◌,
  max,
  true,
  false,
  List,
  [],
  ◌∷◌,
  length,
  slice_index_or,
  slice_set,
  Result,
  Ok,
  Err,
  Option,
  Some,
  IfSome,
  IfOk,
  IsOk,
  OnErr,
  ◌++◌,
}
use Rattle.frame.specs.Below.{Line, JoinedBy, Keeps, Sleepers, IsHistory, Entry, Mode, Refused, Fault, HistoryFull, OutOfMemory, TrimFull, Header, Object, Answer, Recorded, Sleep, Step, answer, recorded, Base, based, folded, Counts, counts, held, HistoryView, base_on, start_on, MayFold, most_folded, IsInRange, AreRight, marks_after, named, whole_pages, owed, has_room, was_owed, Start, entry_for}
use Rattle.frame.specs.declared.seat.Seat.{Seat}
use Rattle.frame.specs.Seat.{AreCalled, IsSeat, marks_in, no_holds}
use Rattle.frame.specs.Tidied.{HasTidied}

-- the header of an object as opened
abbrev pub header_of : Object → ℕ → ℕ → ℕ → Header
header_of o seats conditions cap = record { object = o; seats = seats; conditions = conditions; cap = cap }

-- A header that never changes, a base, a history that only grows or is folded into the base (the newest entry
-- first), and a mark for each seat.
pub record CoreView : Type 0 where
  pub header : Header
  pub base : Base
  pub entries : List Entry
  pub places : ℕ  -- how many entries the reserved memory holds
  pub told : List Bool  -- whether each seat was told that it could go

-- a core with this history and these marks
abbrev pub with_history : Header → HistoryView → List Bool → CoreView
with_history k kept told =
    record { header = k; base = base_on k kept; entries = kept.entries; places = kept.places; told = told }

-- the state before the first entry
abbrev pub start_of : CoreView → Start
start_of v = based v.base

-- the one history of a core, which is legal
pub record StandsFor (s : Start) (h : List Entry) (v : CoreView) : Type 0 where
  pub start : s ≡ start_of v
  pub header : s.header ≡ v.header
  pub entries : h ≡ v.entries
  pub past : IsHistory s h

-- the numbers that the history determines, and the mode that the head of its queue asks for
abbrev pub counts_of : CoreView → Counts
counts_of v = counts (start_of v) v.entries

-- whether a seat is marked
abbrev pub marks_of : CoreView → ℕ → Bool
marks_of v i = slice_index_or v.told i false

-- the marks after an answer are those that the definitions give
abbrev pub IsTold : CoreView → ℕ → Result Answer Fault → CoreView → Type 0
IsTold old i r new = marks_of new ≡ marks_after (start_of old) old.entries i r (marks_of old)

-- The fields represent the history on its base. Hooks, queue, conditions and seats are as its entries make
-- them, room is kept as it asks, and the head of the queue is marked if it could go.
pub record IsInStep (agrees : Counts → Type 0) (k : Header) (kept : HistoryView) (queue : Line)
    (waiters : Sleepers) (table : List Seat) : Type 0 where
  pub range : IsInRange k
  pub began : kept.base ≡ Some (base_on k kept)
  pub based : (base_on k kept).header ≡ k
  pub may_fold : MayFold (base_on k kept) kept.entries
  pub hooks : agrees (counts (start_on k kept) kept.entries)
  pub waiting : Keeps (start_on k kept) kept.entries queue waiters
  pub joins : JoinedBy ((base_on k kept).entries + length kept.entries) queue
  pub seats : length table ≡ k.seats
  pub tabled : (i : ℕ) → i < k.seats →
      IsSeat (start_on k kept) kept.entries i (slice_index_or table i no_holds)
  pub called : AreCalled k.seats (base_on k kept) kept.entries table
  pub told : AreRight (start_on k kept) kept.entries (marks_in table)
  pub cap : kept.cap ≡ k.cap
  pub owed : kept.owed ≡ owed (start_on k kept) kept.entries
  pub room : length kept.entries + kept.owed ≤ k.cap

-- the places for an entry, with all that is owed before it and after it
abbrev pub places_for : CoreView → Entry → ℕ
places_for v e = length v.entries + 1 + owed (start_of v) (e ∷ v.entries)

-- an entry's places are whole pages, and never fewer than there were
abbrev pub places_with : CoreView → Entry → ℕ
places_with v e = max v.places (whole_pages (places_for v e))

-- the places after an answer: only an entry reserves any
abbrev pub places_behind : CoreView → Result Answer Fault → ℕ
places_behind v (Ok (Recorded e named)) = places_with v e
places_behind v (Ok Sleep) = v.places
places_behind v (Err fault) = v.places

-- an entry that a step of its seat makes now
pub record IsNext (v : CoreView) (e : Entry) : Type 0 where
  pub seat : e.seat < v.header.seats
  pub step : Step
  pub made : entry_for (start_of v) v.entries e.seat step ≡ Ok (Some e)

-- An entry was added with the waiter that it names, or there was no room, or no memory. What was owed finds
-- both. Memory is lacking only if places are.
abbrev pub IsAdded : CoreView → Entry → Result (Option ℕ) Fault → CoreView → Type 0
IsAdded old e (Ok name) new =
    (has_room (start_of old) old.entries e ≡ true)
    × (name ≡ named (start_of old) old.entries e)
    × (new ≡ record old { entries = e ∷ old.entries; places = places_with old e; told = new.told })
    × IsTold old e.seat (Ok (Recorded e name)) new
IsAdded old e (Err HistoryFull) new =
    (has_room (start_of old) old.entries e ≡ false) × (was_owed old.header.object e ≡ false) × (new ≡ old)
IsAdded old e (Err OutOfMemory) new =
    (has_room (start_of old) old.entries e ≡ true) × (was_owed old.header.object e ≡ false) × (new ≡ old)
    × (old.places < places_for old e)
IsAdded old e (Err _) new = ⊥

-- An allocation failed for an entry that has room, for which places are lacking and which was not owed.
-- Nothing has changed.
pub record LacksMemory (old : CoreView) (made : Result (Option Entry) Fault) (new : CoreView) : Type 0 where
  pub entry : Entry
  pub is : made ≡ Ok (Some entry)
  pub has_room : has_room (start_of old) old.entries entry ≡ true
  pub lacks_places : old.places < places_for old entry
  pub not_owed : was_owed old.header.object entry ≡ false
  pub unchanged : new ≡ old

-- the answer, the history and the places after it are those that the definitions give
pub record IsAnswer (old : CoreView) (given : Result Answer Fault × List Entry) (r : Result Answer Fault)
    (new : CoreView) : Type 0 where
  pub answer : r ≡ given.0
  pub entries : new.entries ≡ given.1
  pub header : new.header ≡ old.header
  pub base : new.base ≡ old.base
  pub places : new.places ≡ places_behind old r

-- an entry's answer, or lack of memory
abbrev pub IsRecorded : CoreView → Entry → Result Answer Fault → CoreView → Type 0
IsRecorded old e r new =
    IsAnswer old (recorded (start_of old) old.entries e) r new
    ⊎ ((r ≡ Err OutOfMemory) × LacksMemory old (Ok (Some e)) new)

-- the same core with a seat's mark cleared
abbrev pub unmarked_at : ℕ → CoreView → CoreView
unmarked_at i v = record v { told = slice_set v.told i false }

-- a refusal is one entry more, and the holds stay; a sleep clears the seat's mark and changes nothing else
abbrev pub KeepsHolds : CoreView → ℕ → Answer → CoreView → Type 0
KeepsHolds old i (Recorded e named) new =
    (fault : Fault) → e.word ≡ Refused fault →
    (new.entries ≡ e ∷ old.entries)
    × ((i : ℕ) (m : Mode) → held (start_of old) new.entries i m ≡ held (start_of old) old.entries i m)
KeepsHolds old i Sleep new = new ≡ unmarked_at i old

-- what an answer recorded
abbrev pub made_by : Result Answer Fault → List Entry
made_by (Ok (Recorded e named)) = e ∷ []
made_by (Ok Sleep) = []
made_by (Err fault) = []

-- an answer's entry is of the seat, and it names one of the object's seats
abbrev pub IsOf : ℕ → Answer → Type 0
IsOf i (Recorded e named) = e.seat ≡ i
IsOf i Sleep = Unit {0}

abbrev pub NamesBelow : ℕ → Answer → Type 0
NamesBelow seats (Recorded e named) = IfSome named (λ j. j < seats)
NamesBelow seats Sleep = Unit {0}

-- the entry of a step was owed before it came
abbrev pub MakesOwed : CoreView → ℕ → Step → Type 0
MakesOwed v i step =
    (e : Entry) × (entry_for (start_of v) v.entries i step ≡ Ok (Some e)) ×
    (was_owed v.header.object e ≡ true)

-- a step's answer, or lack of memory
abbrev pub IsAnswered : CoreView → ℕ → Step → Result Answer Fault → CoreView → Type 0
IsAnswered old i step r new =
    IsAnswer old (answer (start_of old) old.entries i step) r new
    ⊎ ((r ≡ Err OutOfMemory) × LacksMemory old (entry_for (start_of old) old.entries i step) new)

-- folding the entries would pass the greatest number of folded entries
abbrev pub IsTrimFull : CoreView → Type 0
IsTrimFull v = most_folded < v.base.entries + length v.entries

-- all entries folded into the base
abbrev pub trimmed : CoreView → CoreView
trimmed v = record v { base = folded v.base v.entries; entries = [] }

-- All entries were folded and counted, or there were too many and nothing has changed.
abbrev pub IsTrimmed : CoreView → Result ℕ Fault → CoreView → Type 0
IsTrimmed old (Ok count) new = (IsTrimFull old → ⊥) × (count ≡ length old.entries) × (new ≡ trimmed old)
IsTrimmed old (Err fault) new = IsTrimFull old × (fault ≡ TrimFull) × (new ≡ old)

-- a step was answered; all that is known of it
pub record IsStepped (old : CoreView) (i : ℕ) (step : Step) (r : Result Answer Fault) (new : CoreView)
    : Type 0 where
  -- the answer is the sequential object's, or there was no memory
  pub answered : IsAnswered old i step r new
  -- the marks are those that the definitions give
  pub told : IsTold old i r new
  pub header : new.header ≡ old.header
  pub base : new.base ≡ old.base
  -- a fault leaves the core as it was
  pub fault : OnErr r (new ≡ old)
  pub places : new.places ≡ places_behind old r
  -- a refusal is recorded, and the holds stay
  pub refused : IfOk r (λ answer. KeepsHolds old i answer new)
  -- what was owed before it came never fails
  pub owed : MakesOwed old i step → IsOk r
  -- at most one entry is new
  pub grown : new.entries ≡ made_by r ++ old.entries
  -- the new entry is of the seat that stepped
  pub own : IfOk r (λ answer. IsOf i answer)
  -- whom the answer names has a seat of the object
  pub names : IfOk r (λ answer. NamesBelow old.header.seats answer)
  -- before a seat slept on, the cancelled nodes right before it were freed
  pub tidied : IfOk r (λ answer. HasTidied i answer)
