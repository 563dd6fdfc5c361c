-- A call that trims a full history and is made again.
use Rattle.std.specs.Prelude.{◌≡◌, ◌≢◌, ◌⊎◌, ℕ, zero, suc, [], Bool, true, false, Result, Ok, Err}
use Rattle.monitor_fronts.specs.Below.{Entry, Fault, HistoryFull, Point, Step, Signal, SignalAll, Deed, Before, IsCall, Request, How, Shown, IsEntered, IsTrim}
use Rattle.monitor_fronts.specs.declared.room.WhenFull.{WhenFull}
use Rattle.monitor_fronts.specs.declared.room.WhenFull.TheVariants.{Refuse, Trim}

-- a call of the monitor, by the pass before it, its reply, and the pass after it
abbrev pub MonitorCall : Type 1
MonitorCall = Shown → Result Entry Fault → Shown → Type 0

-- a pass that has seen this, and has done nothing more
abbrev pub at_point : Shown → Point → Shown
at_point old p = record { lock = old.lock; seat = old.seat; seen = p; mine = old.mine; share = old.share }

-- The call found the history full, and a trim came after it. The pass has recorded nothing.
pub record TurnsBack (call : MonitorCall) (old : Shown) (trimmed : Result ℕ Fault) (new : Shown) : Type 0 where
  pub full : Point
  pub begins : Before old.seen full
  pub refused : call old (Err HistoryFull) (at_point old full)
  pub trim : IsTrim (at_point old full) trimmed new

-- so often, and there were never too many entries to fold
abbrev pub MadeRoom : ℕ → MonitorCall → Shown → Point → Type 0
MadeRoom zero call old p = p ≡ old.seen
MadeRoom (suc times) call old p =
    (q : Point) × MadeRoom times call old q
    × ((count : ℕ) × TurnsBack call (at_point old q) (Ok count) (at_point old p))

-- A history without entries has no room, or there were too many entries to fold.
abbrev pub IsNoRoom : Point → Result ℕ Fault → Fault → Type 0
IsNoRoom full (Ok count) fault = (full.entries ≡ []) × (fault ≡ HistoryFull)
IsNoRoom full (Err f) fault = fault ≡ f

-- the last try found no room, and the call gives up
pub record GivesUp (call : MonitorCall) (old : Shown) (r : Result Entry Fault) (new : Shown) : Type 0 where
  pub trimmed : Result ℕ Fault
  pub tried : TurnsBack call old trimmed new
  pub fault : Fault
  pub is : r ≡ Err fault
  pub why : IsNoRoom tried.full trimmed fault

-- The call was made anew after each trim. The last time it found room, or it gives up.
pub record GoesOn (call : MonitorCall) (old : Shown) (r : Result Entry Fault) (new : Shown) : Type 0 where
  pub times : ℕ
  pub from : Point
  pub made : MadeRoom times call old from
  pub ends : (call (at_point old from) r new × (r ≢ Err HistoryFull)) ⊎ GivesUp call (at_point old from) r new

-- a call, by what it does if it finds the history full
abbrev pub InRoom : WhenFull → MonitorCall → Shown → Result Entry Fault → Shown → Type 0
InRoom Refuse call old r new = call old r new
InRoom Trim call old r new = GoesOn call old r new

-- one step of an idle seat
abbrev pub IsEnteredIn : WhenFull → (Deed → Type 0) → Shown → Step → Result Entry Fault → Shown → Type 0
IsEnteredIn w did old step r new = InRoom w (λ o a n. IsEntered did o step a n) old r new

-- a whole call
abbrev pub IsCallIn : WhenFull → (Deed → Type 0) → Shown → Request → How → Result Entry Fault → Shown → Type 0
IsCallIn w did old q how r new = InRoom w (λ o a n. IsCall did o q how a n) old r new

-- a signal to one sleeper, or to all
abbrev pub signal_step : Bool → ℕ → Step
signal_step true condition = SignalAll condition
signal_step false condition = Signal condition
