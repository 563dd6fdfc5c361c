-- What reading a script returns: the script that the JSON value describes, or the first fault.
use Rattle.std.specs.Prelude.{◌≡◌, ℕ, List, [], Some, length, IsUtf8, Result, Ok, Err}
use Rattle.serde_json.specs.Data.{Data}
use Rattle.serde_json.specs.Read.{read}
use Rattle.script.specs.Saying.{Say, StopsAt, IsTop, SaysObject, SaysCall, IsRounds, SaysWorker}
use Rattle.script.specs.Script.{Named, ScriptView}
use Rattle.script.specs.declared.call.Call.{Call}
use Rattle.script.specs.declared.fault.ScriptFault.{ScriptFault}
use Rattle.script.specs.declared.fault.ScriptFault.TheVariants.{NotJson, BadTop, BadObject, BadThread, BadCall, OutOfMemory}

-- the bytes are the text of this JSON value
abbrev pub IsJson : List ℕ → Data → Type 0
IsJson text value = IsUtf8 text × (read text ≡ Some value)

-- the value describes this script
pub record Says (value : Data) (s : ScriptView) : Type 0 where
  pub objects : List Data
  pub threads : List Data
  pub top : IsTop value objects threads
  pub each_object : Say (SaysObject (length threads)) [] objects s.objects
  pub each_worker : Say (SaysWorker s.objects (length threads)) [] threads s.workers

-- the value describes no object that may follow these
abbrev pub SaysNoObject : ℕ → List Named → Data → Type 0
SaysNoObject threads before value = (o : Named) → ¬ SaysObject threads before value o

abbrev pub SaysNoCall : List Named → ℕ → List Call → Data → Type 0
SaysNoCall objects threads before value = (c : Call) → ¬ SaysCall objects threads before value c

-- the value is no list of calls with a number of rounds
abbrev pub HasNoRounds : Data → Type 0
HasNoRounds value = (repeat : ℕ) (calls : List Data) → ¬ IsRounds value repeat calls

-- the value is one, and its call at this place is bad
pub record HasBadCall (objects : List Named) (threads : ℕ) (place : ℕ) (value : Data) : Type 0 where
  pub repeat : ℕ
  pub calls : List Data
  pub rounds : IsRounds value repeat calls
  pub stops : StopsAt (SaysCall objects threads) calls place (SaysNoCall objects threads)

-- the fault of a list of objects
abbrev pub IsObjectsFault : ℕ → List Data → ScriptFault → Type 0
IsObjectsFault threads values (BadObject place) =
    StopsAt (SaysObject threads) values place (SaysNoObject threads)
IsObjectsFault threads values OutOfMemory = Unit {0}
IsObjectsFault threads values _ = ⊥

-- the fault of a list of threads
abbrev pub IsThreadsFault : List Named → ℕ → List Data → ScriptFault → Type 0
IsThreadsFault objects threads values (BadThread thread) =
    StopsAt (SaysWorker objects threads) values thread (λ before value. HasNoRounds value)
IsThreadsFault objects threads values (BadCall thread place) =
    StopsAt (SaysWorker objects threads) values thread (λ before value. HasBadCall objects threads place
    value)
IsThreadsFault objects threads values OutOfMemory = Unit {0}
IsThreadsFault objects threads values _ = ⊥

-- the first fault of a value
pub record StopsInObjects (value : Data) (fault : ScriptFault) : Type 0 where
  pub objects : List Data
  pub threads : List Data
  pub top : IsTop value objects threads
  pub stops : IsObjectsFault (length threads) objects fault

pub record StopsInThreads (value : Data) (fault : ScriptFault) : Type 0 where
  pub objects : List Data
  pub threads : List Data
  pub top : IsTop value objects threads
  pub said : List Named
  pub each_object : Say (SaysObject (length threads)) [] objects said
  pub stops : IsThreadsFault said (length threads) threads fault

abbrev pub HasFault : Data → ScriptFault → Type 0
HasFault value BadTop = (objects threads : List Data) → ¬ IsTop value objects threads
HasFault value (BadObject place) = StopsInObjects value (BadObject place)
HasFault value (BadThread thread) = StopsInThreads value (BadThread thread)
HasFault value (BadCall thread place) = StopsInThreads value (BadCall thread place)
HasFault value _ = ⊥

-- The bytes are no text of a JSON value, or the value whose text they are has this first fault.
abbrev pub IsFault : List ℕ → ScriptFault → Type 0
IsFault text NotJson = (value : Data) → ¬ IsJson text value
IsFault text OutOfMemory = Unit {0}
IsFault text fault = (value : Data) × IsJson text value × HasFault value fault

-- what a call returns: the script that the text spells, its first fault, or lack of memory
abbrev pub Reads : List ℕ → Result ScriptView ScriptFault → Type 0
Reads text (Ok script) = (value : Data) × IsJson text value × Says value script
Reads text (Err fault) = IsFault text fault
