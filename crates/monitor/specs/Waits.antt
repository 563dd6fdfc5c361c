-- One who waits, and how its wait ends.
use Rattle.std.specs.Prelude.{◌≡◌, ◌⊎◌, ℕ, Bool, true, false, List, ◌∷◌, Some, None, IsSome, Result, Ok}
use Rattle.monitor.specs.Below.{Arrival, Entry, Mode, Word, Fault, Step, Look, Expire, Interrupt, line, place_of, named, entry_for, Deed, interrupted, parked, Permit, Deadline, Interrupted, Point, Before, AwaitsAs, ReturnsAs}
use Rattle.history.specs.declared.entry.Word.TheVariants as word
use Rattle.history.specs.Start.{Sleep}
use Rattle.monitor.specs.Interrupts.{tells_interrupt}
use Rattle.monitor.specs.Lawful.{start_at}
use Rattle.monitor.specs.Shown.{Shown}
use Rattle.monitor.specs.Stepping.{IsUnparked}
use Rattle.monitor.specs.declared.waiting.Limits.{Limits}
use Rattle.monitor.specs.declared.waiting.Stage.{Stage}
use Rattle.monitor.specs.declared.waiting.Stage.TheVariants.{Expires, Parks, Looks, GivenUp}

abbrev pub asking : ℕ → Mode → ℕ → Arrival
asking seat mode n = record { seat = seat; mode = mode; n = n; back = false }

-- the seat stands in line and asks for this
abbrev pub StandsFor : Point → ℕ → Arrival → Type 0
StandsFor p i a = place_of i (line (start_at p) p.entries) ≡ Some a

-- a point with an entry more
abbrev pub with_entry : Entry → Point → Point
with_entry e p = record { base = p.base; entries = e ∷ p.entries }

-- The entry is the one of a step of the seat, after all that had been seen, and before all that was seen
-- since. Where it still stands in the list, that is its place there. Whom it names there was unparked by one who
-- had seen it as the last entry under the same lock, so after the step.
pub record IsMade (did : Deed → Type 0) (old : Shown) (step : Step) (e : Entry) (new : Point) : Type 0 where
  pub front : Point
  pub begins : Before old.seen front
  pub made : entry_for (start_at front) front.entries old.seat step ≡ Ok (Some e)
  pub there : Before (with_entry e front) new
  pub wakes : IsUnparked did old.lock (named (start_at front) front.entries e) (with_entry e front)

-- the entry is the last one
abbrev pub IsLast : Entry → Point → Type 0
IsLast e p = (rest : List Entry) × (p.entries ≡ e ∷ rest)

-- What a seat waits for: its turn in line, a signal, or its turn on its way back from a condition.
pub data Cause : Type 0 where
  in_line : (a : Arrival) → Cause
  on_condition : (w : Sleep) → Cause
  on_way_back : (w : Sleep) → Cause

abbrev pub WaitsAs : Point → ℕ → Cause → Type 0
WaitsAs p i (in_line a) = (a.back ≡ false) × StandsFor p i a
WaitsAs p i (on_condition w) = AwaitsAs (start_at p) p.entries i w
WaitsAs p i (on_way_back w) = ReturnsAs (start_at p) p.entries i w

abbrev pub Waits : Point → ℕ → Type 0
Waits p i = (k : Cause) × WaitsAs p i k

-- the steps that one who waits takes: none expires without a deadline, none is interrupted that isn't
-- interruptible
abbrev pub IsAllowed : Limits → Step → Type 0
IsAllowed l Look = Unit {0}
IsAllowed l Expire = IsSome l.until
IsAllowed l Interrupt = l.interruptible ≡ true
IsAllowed l _ = ⊥

-- the step is the one that a park with these limits led to, and they allow it
abbrev pub AfterPark : (Deed → Type 0) → ℕ → Limits → Step → Type 0
AfterPark did i l Look = did (parked i l.until l.interruptible Permit)
AfterPark did i l Expire = did (parked i l.until l.interruptible Deadline) × IsAllowed l Expire
AfterPark did i l Interrupt = did (parked i l.until l.interruptible Interrupted) × IsAllowed l Interrupt
AfterPark did i l _ = ⊥

-- limits by which no park ends but by a permit
abbrev pub no_limits : Limits
no_limits = record { until = None; interruptible = false }

-- what the step of one who waits comes of, at each stage
abbrev pub ComesOf : (Deed → Type 0) → ℕ → Limits → Stage → Step → Type 0
ComesOf did i l Expires step = step ≡ Expire
ComesOf did i l Parks step = AfterPark did i l step
ComesOf did i l Looks step = step ≡ Look
ComesOf did i l GivenUp step = AfterPark did i no_limits step

-- the reply tells an interrupt that was taken, or it is pending again
abbrev pub IsNotLost : (Deed → Type 0) → ℕ → Result Entry Fault → Type 0
IsNotLost did i reply = tells_interrupt reply ≡ false → did (interrupted i)

-- One who waits expired or was interrupted, as it may where it began. `kept` says what became of the interrupt.
abbrev pub HasGivenUp : (Deed → Type 0) → ℕ → Limits → Stage → (kept : Type 0) → Type 0
HasGivenUp did i l s kept = ComesOf did i l s Expire ⊎ (ComesOf did i l s Interrupt × kept)

-- what the last step of a wait comes of: in line, of what it began with; else also of a park without limits,
-- once it has expired or was interrupted
abbrev pub EndComesOf : (Deed → Type 0) → ℕ → Limits → Stage → Cause → (kept : Type 0) → Step → Type 0
EndComesOf did i l s (in_line a) kept step = ComesOf did i l s step
EndComesOf did i l s _ kept step =
    ComesOf did i l s step ⊎ (HasGivenUp did i l s kept × AfterPark did i no_limits step)

-- the stage after a step that recorded nothing
abbrev pub stage_asleep : Stage → Step → Stage
stage_asleep Parks Look = Parks
stage_asleep _ _ = GivenUp

abbrev pub is_lapse : Word → Bool
is_lapse word.Lapse = true
is_lapse _ = false
