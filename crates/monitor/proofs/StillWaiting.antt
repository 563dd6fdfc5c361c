-- One who still waits, between its turns: what it has recorded so far, and how it goes on.
use Rattle.std.specs.Prelude.{◌≡◌, ◌⊎◌, ℕ, Bool, true, false, ◌∷◌, Option, Some, None, Result, Ok, Err}
use Rattle.monitor.specs.Below.{End, Entry, Fault, Answer, Step, named, Deed, Before, lapsed, lapse_from}
use Rattle.history.specs.declared.step.Answer.TheVariants as answer
use Rattle.history.specs.Start.{Sleep}
use Rattle.monitor.specs.Prelude.{Shown, IsSound, IsSame, Limits, Cause, in_line, on_condition, on_way_back, WaitsAs, HasGivenUp, stage_asleep, is_lapse}
use Rattle.monitor.specs.declared.waiting.Stage.{Stage}
use Rattle.monitor.specs.declared.waiting.Stage.TheVariants.{Looks, GivenUp}
use Rattle.monitor.specs.inner.Waits.{HasLapsed}

-- the stage of one who hasn't lapsed: as it began, or given up, but not in line
abbrev pub IsStage : (Deed → Type 0) → ℕ → Limits → Stage → Cause → (kept : Type 0) → Stage → Type 0
IsStage did i l s (in_line a) kept stage = stage ≡ s
IsStage did i l s _ kept stage = (stage ≡ s) ⊎ ((stage ≡ GivenUp) × HasGivenUp did i l s kept)

-- the stages after a lapse
abbrev pub IsBehindLapse : Stage → Type 0
IsBehindLapse Looks = Unit {0}
IsBehindLapse GivenUp = Unit {0}
IsBehindLapse _ = ⊥

-- what one who waits has recorded so far: nothing, or its lapse, after which it is on its way back
abbrev pub SoFar : (Deed → Type 0) → Shown → Cause → Stage → Limits → (kept : Type 0) → Shown → Cause → Stage → Type 0
SoFar did first was s l kept now k stage =
    ((k ≡ was) × (now.mine ≡ first.mine) × IsStage did first.seat l s was kept stage)
    ⊎ ((w : Sleep) × (how : End) × (was ≡ on_condition w) × (k ≡ on_way_back (lapsed w how))
    × HasLapsed did first w s l how now.seen × (now.mine ≡ lapse_from first.seat w how ∷ first.mine)
    × IsBehindLapse stage)

-- One who waits since the first pass. `kept` holds if an interrupt ended one of its parks.
pub record StillWaits (did : Deed → Type 0) (first : Shown) (was : Cause) (s : Stage) (l : Limits)
    (kept : Type 0) (now : Shown) (stage : Stage) : Type 0 where
  pub same : IsSame first now
  pub begins : Before first.seen now.seen
  pub shows : IsSound now
  pub cause : Cause
  pub waits : WaitsAs now.seen now.seat cause
  pub so_far : SoFar did first was s l kept now cause stage

abbrev pub AllStillWait : (Deed → Type 0) → Shown → Stage → Limits → (kept : Type 0) → Shown → Stage → Type 0
AllStillWait did first s l kept now stage =
    (k : Cause) → WaitsAs first.seen first.seat k → StillWaits did first k s l kept now stage

-- the stage after a step that didn't end the wait: what it recorded was its lapse
abbrev pub stage_behind : Stage → Step → Result Answer Fault → Stage
stage_behind stage step (Ok (answer.Recorded e name)) = Looks
stage_behind stage step (Ok answer.Sleep) = stage_asleep stage step
stage_behind stage step (Err fault) = stage_asleep stage step

abbrev pub unless_lapse : Bool → Entry → Option Entry
unless_lapse true e = None
unless_lapse false e = Some e

-- the entry that ends a wait: any but a lapse
abbrev pub ending_of : Result Answer Fault → Option Entry
ending_of (Ok (answer.Recorded e named)) = unless_lapse (is_lapse e.word) e
ending_of (Ok answer.Sleep) = None
ending_of (Err fault) = None
