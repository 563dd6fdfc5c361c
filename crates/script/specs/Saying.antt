-- How a JSON value describes a script, part by part.
use Rattle.std.specs.Prelude.{◌≡◌, ◌≢◌, ℕ, ◌≤◌, List, [], ◌∷◌, ◌++◌, Some, option_map, length, take, slice_get, All, codes}
use Rattle.history.specs.Spelling.{part_of}
use Rattle.serde_json.specs.Data.{Data, array, number, string, unsigned}
use Rattle.serde_json.specs.Events.{members_len}
use Rattle.serde_json.specs.Find.{as_object, get}
use Rattle.serde_json.specs.View.{items_of}
use Rattle.script.specs.CallText.{Spells}
use Rattle.script.specs.Script.{Named, WorkerView, IsObject}
use Rattle.script.specs.declared.call.Call.{Call}
use Rattle.script.specs.declared.limits.TheConstants.{MOST_CALLS, MOST_OBJECTS, MOST_ROUNDS, MOST_THREADS}

-- an object with exactly two keys, and their values
pub record HasMembers (value : Data) (first : List ℕ) (a : Data) (second : List ℕ) (b : Data) : Type 0 where
  pub two : option_map members_len (as_object value) ≡ Some 2
  pub first_value : get first value ≡ Some a
  pub second_value : get second value ≡ Some b

-- a list of values, of a length between these
pub record IsList (least most : ℕ) (value : Data) (values : List Data) : Type 0 where
  pub enough : least ≤ length values
  pub few : length values ≤ most
  pub is : value ≡ array (items_of values)

-- Each value describes the thing at its place. `Says` relates it to that thing and to the things before.
abbrev pub Say : {T : Type 0} → (List T → Data → T → Type 0) → List T → List Data → List T → Type 0
Say Says before [] [] = Unit {0}
Say Says before [] (x ∷ xs) = ⊥
Say Says before (v ∷ vs) [] = ⊥
Say Says before (v ∷ vs) (x ∷ xs) = Says before v x × Say Says (before ++ x ∷ []) vs xs

-- The values before this place describe things, and the one at this place is bad after them.
pub record StopsAt {T : Type 0} (Says : List T → Data → T → Type 0) (values : List Data) (place : ℕ)
    (IsBad : List T → Data → Type 0) : Type 0 where
  pub said : List T
  pub value : Data
  pub before : Say Says [] (take place values) said
  pub here : slice_get values place ≡ Some value
  pub bad : IsBad said value

-- lists of at least 1 object and 1 thread
pub record IsTop (value : Data) (objects threads : List Data) : Type 0 where
  pub first : Data
  pub second : Data
  pub members : HasMembers value (codes "objects") first (codes "threads") second
  pub object_list : IsList 1 MOST_OBJECTS first objects
  pub thread_list : IsList 1 MOST_THREADS second threads

abbrev pub object_value : Named → Data
object_value o = array (items_of (string o.0 ∷ string (part_of o.1) ∷ []))

-- a name that no object before has, and a header
pub record SaysObject (threads : ℕ) (before : List Named) (value : Data) (o : Named) : Type 0 where
  pub good : IsObject threads o
  pub new_name : All (λ b. b.0 ≢ o.0) before
  pub is : value ≡ object_value o

-- the text of a call
abbrev pub SaysCall : List Named → ℕ → List Call → Data → Call → Type 0
SaysCall objects threads before value call =
    (text : List ℕ) × (value ≡ string text) × Spells objects threads call text

-- at least 1 round of a list of calls
pub record IsRounds (value : Data) (repeat : ℕ) (calls : List Data) : Type 0 where
  pub first : Data
  pub members : HasMembers value (codes "calls") first (codes "repeat") (number (unsigned repeat))
  pub call_list : IsList 0 MOST_CALLS first calls
  pub some_round : 1 ≤ repeat
  pub few_rounds : repeat ≤ MOST_ROUNDS

-- rounds of calls
pub record SaysWorker (objects : List Named) (threads : ℕ) (before : List WorkerView) (value : Data)
    (w : WorkerView) : Type 0 where
  pub values : List Data
  pub rounds : IsRounds value w.repeat values
  pub each : Say (SaysCall objects threads) [] values w.calls
