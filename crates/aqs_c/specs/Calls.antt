-- What a call of C leaves, and what it is answered.
use Rattle.std.specs.Prelude.{◌≡◌, ◌⊎◌, ◌≤◌, ◌<◌, ◌+◌, ℕ, ℤ, Bool, List, Option, Some, None, IsSome, is_some, Result, Ok, Err, length, take, reverse, slice_get}
use Rattle.aqs_c.specs.Below.{all_asleep, available, count, counts, owner, Entry, Fault, Recorded, Step, entry_at_once, line, history_text, start_at, IsBegun, IsGoneOn, IsQuietLook, Shown, IsStep, IsStepNow, IsTrim, How, Request, Turn, Waiting, Now, Woke}
use Rattle.aqs_c.specs.Codes.{IsAnswerOf, IsCallOf, IsCodeOf, IsEntry, IsQuiet, IsTurnOf, IsWoke, done_number}
use Rattle.aqs_c.specs.Seated.{Seated, waiting_in}
use Rattle.aqs_c.specs.declared.answers.AqsAnswer.{AqsAnswer}
use Rattle.aqs_c.specs.declared.answers.AqsContention.{AqsContention}
use Rattle.aqs_c.specs.declared.calls.AqsCall.{AqsCall}
use Rattle.aqs_c.specs.declared.steps.AqsStep.{AqsStep}

-- an answer of this kind, after which nothing has changed and the caller owes nothing
pub record IsRefused (kind : ℕ) (old : Seated) (a : AqsAnswer) (new : Seated) : Type 0 where
  pub kind_is : a.kind ≡ kind
  pub quiet : IsQuiet a
  pub pass : new.pass ≡ old.pass
  pub waiting : new.waiting ≡ old.waiting

-- one step of a seat, as the monitor promises it, and its answer in numbers
pub record IsStepMade (old : Seated) (code : AqsStep) (a : AqsAnswer) (new : Seated) : Type 0 where
  pub step : Step
  pub reply : Result Now Fault
  pub is_code : IsCodeOf step code
  pub is_answer : IsAnswerOf reply a
  pub made : IsStepNow old.pass step reply new.pass
  pub waiting : new.waiting ≡ old.waiting

-- A seat that is in no call makes the step of the code. Kind 4 says that there is no such step.
abbrev pub IsStepped : Seated → AqsStep → AqsAnswer → Seated → Type 0
IsStepped old code a new =
    (IsRefused 4 old a new × ((step : Step) → IsCodeOf step code → ⊥)) ⊎ IsStepMade old code a new

abbrev pub IsSeatStep : Seated → AqsStep → AqsAnswer → Seated → Type 0
IsSeatStep old code a new =
    (IsSome old.waiting × IsRefused 8 old a new) ⊎ ((old.waiting ≡ None) × IsStepped old code a new)

-- the pass may have seen more, and nothing else has changed
pub record IsSeatLook (old new : Seated) : Type 0 where
  pub looked : IsQuietLook old.pass new.pass
  pub waiting : new.waiting ≡ old.waiting

-- a step that was done at once, as the monitor promises it, and the number that it is answered
pub record IsDoneAtOnce (old : Seated) (code : AqsStep) (number : ℕ) (new : Seated) : Type 0 where
  pub step : Step
  pub named : Option ℕ
  pub is_code : IsCodeOf step code
  pub idle : old.waiting ≡ None
  pub made : IsStep old.pass step (Ok (Recorded (entry_at_once old.pass.seat step) named)) new.pass
  pub waiting : new.waiting ≡ None
  pub is_number : number ≡ done_number (Some named)

-- The step was done at once. Or it was not, the pass may have seen more, and nothing else has changed.
abbrev pub IsSeatStepAtOnce : Seated → AqsStep → ℕ → Seated → Type 0
IsSeatStepAtOnce old code number new = ((number ≡ 0) × IsSeatLook old new) ⊎ IsDoneAtOnce old code number new

-- the first turn of a call, as the monitor promises it, and its answer in numbers
pub record IsTurnBegun (old : Seated) (c : AqsCall) (a : AqsAnswer) (new : Seated) : Type 0 where
  pub request : Request
  pub how : How
  pub was : Bool
  pub turn : Turn
  pub is_call : IsCallOf request how was c
  pub begun : IsBegun old.pass request how c.moment was turn new.pass
  pub is_turn : IsTurnOf turn a
  pub waiting : new.waiting ≡ waiting_in turn.next

-- A seat that is in no call begins one. Kind 4 says that these are the numbers of no call, and kind 3 that
-- another call had the object.
abbrev pub IsCallBegun : Seated → AqsCall → AqsAnswer → Seated → Type 0
IsCallBegun old c a new =
    (IsRefused 4 old a new × ((q : Request) (how : How) (was : Bool) → IsCallOf q how was c → ⊥))
    ⊎ IsRefused 3 old a new
    ⊎ IsTurnBegun old c a new

abbrev pub IsSeatBegun : Seated → AqsCall → AqsAnswer → Seated → Type 0
IsSeatBegun old c a new =
    (IsSome old.waiting × IsRefused 8 old a new) ⊎ ((old.waiting ≡ None) × IsCallBegun old c a new)

-- the next turn of a call that waits
pub record IsTurnMade (w : Waiting) (old : Seated) (number : ℕ) (a : AqsAnswer) (new : Seated) : Type 0 where
  pub woke : Woke
  pub turn : Turn
  pub is_woke : IsWoke woke number
  pub gone_on : IsGoneOn old.pass w woke turn new.pass
  pub is_turn : IsTurnOf turn a
  pub waiting : new.waiting ≡ waiting_in turn.next

-- Kind 4 says that no park ends so.
abbrev pub IsCallGoneOn : Waiting → Seated → ℕ → AqsAnswer → Seated → Type 0
IsCallGoneOn w old number a new =
    (IsRefused 4 old a new × ((woke : Woke) → IsWoke woke number → ⊥))
    ⊎ IsRefused 3 old a new
    ⊎ IsTurnMade w old number a new

abbrev pub IsSeatGoneOn : Seated → ℕ → AqsAnswer → Seated → Type 0
IsSeatGoneOn old number a new =
    ((old.waiting ≡ None) × IsRefused 9 old a new)
    ⊎ ((w : Waiting) × (old.waiting ≡ Some w) × IsCallGoneOn w old number a new)

-- the pass is empty
abbrev pub IsNoPass : AqsAnswer → Type 0
IsNoPass a = (a.kind ≡ 5) × IsQuiet a

-- The same of a pass, which may be empty: it stays so.
abbrev pub IsPassStep : Option Seated → AqsStep → AqsAnswer → Option Seated → Type 0
IsPassStep None code a new = IsNoPass a × (new ≡ None)
IsPassStep (Some old) code a new = (seat : Seated) × (new ≡ Some seat) × IsSeatStep old code a seat

abbrev pub IsPassStepAtOnce : Option Seated → AqsStep → ℕ → Option Seated → Type 0
IsPassStepAtOnce None code number new = (number ≡ 0) × (new ≡ None)
IsPassStepAtOnce (Some old) code number new = (seat : Seated) × (new ≡ Some seat) × IsSeatStepAtOnce old code number seat

abbrev pub IsPassBegun : Option Seated → AqsCall → AqsAnswer → Option Seated → Type 0
IsPassBegun None c a new = IsNoPass a × (new ≡ None)
IsPassBegun (Some old) c a new = (seat : Seated) × (new ≡ Some seat) × IsSeatBegun old c a seat

abbrev pub IsPassGoneOn : Option Seated → ℕ → AqsAnswer → Option Seated → Type 0
IsPassGoneOn None number a new = IsNoPass a × (new ≡ None)
IsPassGoneOn (Some old) number a new = (seat : Seated) × (new ≡ Some seat) × IsSeatGoneOn old number a seat

-- an entry, or none of that number
abbrev pub IsEntryAt : Option Entry → AqsAnswer → Type 0
IsEntryAt None a = (a.kind ≡ 6) × IsQuiet a
IsEntryAt (Some e) a = IsEntry e a × IsQuiet a

abbrev pub IsSeatEntry : Seated → ℕ → AqsAnswer → Seated → Type 0
IsSeatEntry old number a new =
    IsRefused 3 old a new
    ⊎ (IsSeatLook old new × IsEntryAt (slice_get (reverse new.pass.seen.entries) number) a)

abbrev pub IsPassEntry : Option Seated → ℕ → AqsAnswer → Option Seated → Type 0
IsPassEntry None number a new = IsNoPass a × (new ≡ None)
IsPassEntry (Some old) number a new = (seat : Seated) × (new ≡ Some seat) × IsSeatEntry old number a seat

-- the text of what a pass has seen
abbrev pub text_seen : Shown → List ℕ
text_seen p = history_text p.seen.base p.seen.entries

-- what a text leaves of the memory for it: it stands there if it fits, and else nothing has changed
abbrev pub IsPut : List ℕ → List ℕ → List ℕ → Type 0
IsPut text out written =
    (length text ≤ length out → take (length text) written ≡ text) × (length out < length text → written ≡ out)

-- The object was busy; or a text was refused; or its length, and the text if it fits. Else memory and length are as they
-- were.
abbrev pub IsSeatText : Seated → ℕ → Seated → List ℕ → List ℕ → ℕ → ℕ → Type 0
IsSeatText old kind new out written before long =
    ((kind ≡ 3) × (new ≡ old) × (written ≡ out) × (long ≡ before))
    ⊎ ((kind ≡ 2) × IsSeatLook old new × (written ≡ out) × (long ≡ before))
    ⊎ ((kind ≡ 0) × IsSeatLook old new × (long ≡ length (text_seen new.pass)) × IsPut (text_seen new.pass) out written)

abbrev pub IsPassText : Option Seated → ℕ → Option Seated → List ℕ → List ℕ → ℕ → ℕ → Type 0
IsPassText None kind new out written before long = (kind ≡ 5) × (new ≡ None) × (written ≡ out) × (long ≡ before)
IsPassText (Some old) kind new out written before long =
    (seat : Seated) × (new ≡ Some seat) × IsSeatText old kind seat out written before long

-- a fold, as the monitor promises it, of which nothing else changes
pub record IsSeatTrim (old : Seated) (r : Result ℕ Fault) (new : Seated) : Type 0 where
  pub trimmed : IsTrim old.pass r new.pass
  pub waiting : new.waiting ≡ old.waiting

-- The object was busy, or it had too many entries, or that number was folded. Else the number is as it was.
abbrev pub IsSeatFold : Seated → ℕ → ℕ → ℕ → Seated → Type 0
IsSeatFold old kind before count new =
    ((kind ≡ 3) × (new ≡ old) × (count ≡ before))
    ⊎ ((kind ≡ 2) × ((f : Fault) × IsSeatTrim old (Err f) new) × (count ≡ before))
    ⊎ ((kind ≡ 0) × IsSeatTrim old (Ok count) new)

abbrev pub IsPassTrim : Option Seated → ℕ → ℕ → ℕ → Option Seated → Type 0
IsPassTrim None kind before count new = (kind ≡ 5) × (new ≡ None) × (count ≡ before)
IsPassTrim (Some old) kind before count new =
    (seat : Seated) × (new ≡ Some seat) × IsSeatFold old kind before count seat

-- the free permits and the count in what a pass has seen
abbrev pub permits_seen : Shown → ℤ
permits_seen p = available (start_at p.seen) p.seen.entries

abbrev pub count_seen : Shown → ℕ
count_seen p = count (start_at p.seen) p.seen.entries

-- who waits in what a pass has seen: how many in all, and how many in the queue; and whether some seat owns the object
abbrev pub contention_seen : Shown → AqsContention
contention_seen p =
    record {
      waiting = length (line (start_at p.seen) p.seen.entries) + all_asleep (start_at p.seen) p.seen.entries;
      queue_length = length (line (start_at p.seen) p.seen.entries);
      is_held = is_some (owner (counts (start_at p.seen) p.seen.entries));
    }

-- The object was busy; or what is shown is that of what the pass has then seen.
abbrev pub IsSeatNumber : {A : Type 0} → (Shown → A) → Seated → ℕ → A → Seated → A → Type 0
IsSeatNumber number old kind before new shown =
    ((kind ≡ 3) × (new ≡ old) × (shown ≡ before))
    ⊎ ((kind ≡ 0) × IsSeatLook old new × (shown ≡ number new.pass))

abbrev pub IsPassNumber : {A : Type 0} → (Shown → A) → Option Seated → ℕ → A → Option Seated → A → Type 0
IsPassNumber number None kind before new shown = (kind ≡ 5) × (new ≡ None) × (shown ≡ before)
IsPassNumber number (Some old) kind before new shown =
    (seat : Seated) × (new ≡ Some seat) × IsSeatNumber number old kind before seat shown
