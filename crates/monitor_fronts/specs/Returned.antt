-- What a front type returns for the entry that ended a call.
use Rattle.std.specs.Prelude.{◌≡◌, ℕ, Bool, true, false, Result, Ok, Err}
use Rattle.monitor_fronts.specs.Below.{End, Entry, Word, Fault}
use Rattle.history.specs.declared.entry.End.TheVariants as end
use Rattle.history.specs.declared.entry.Word.TheVariants as word
use Rattle.history.specs.declared.fault.Fault.TheVariants as fault

-- how a call ended that was neither refused nor missed
abbrev pub ended_well : End → Result Bool Fault
ended_well end.Interrupt = Err fault.Interrupted
ended_well end.Timeout = Ok false
ended_well _ = Ok true

abbrev pub whether_by : Word → End → Result Bool Fault
whether_by (word.Refused f) e = Err f
whether_by word.Missed e = Ok false
whether_by _ e = ended_well e

-- whether the call got what it asked for
abbrev pub whether_of : Result Entry Fault → Result Bool Fault
whether_of (Err f) = Err f
whether_of (Ok e) = whether_by e.word e.end

-- the call had what it asked for
abbrev pub is_done : Result Bool Fault → Bool
is_done (Ok b) = b
is_done (Err f) = false

abbrev pub without : Result Bool Fault → Result (Unit {0}) Fault
without (Err f) = Err f
without (Ok b) = Ok tt

abbrev pub done_of : Result Entry Fault → Result (Unit {0}) Fault
done_of reply = without (whether_of reply)

abbrev pub number_by : Word → ℕ → Result ℕ Fault
number_by (word.Refused f) n = Err f
number_by _ n = Ok n

abbrev pub number_of : Result Entry Fault → Result ℕ Fault
number_of (Err f) = Err f
number_of (Ok e) = number_by e.word e.n

-- the monitor's call had a reply, and this is what is returned for it
abbrev pub ReturnedAs : {A : Type 0} → (Result Entry Fault → A) → (Result Entry Fault → Type 0) → A → Type 0
ReturnedAs as_result call r = (reply : Result Entry Fault) × call reply × (r ≡ as_result reply)
