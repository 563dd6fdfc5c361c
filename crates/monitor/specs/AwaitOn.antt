-- What an await records.
use Rattle.std.specs.Prelude.{◌==◌, ◌≡◌, ◌⊎◌, ℕ, Bool, true, false, ◌∷◌, Result, Ok, Err}
use Rattle.monitor.specs.Below.{End, Entry, X, Word, Fault, Step, Await, EntryInterrupt, Interrupt, Look, signalled, lapsed, back_from, lapse_from, Deed}
use Rattle.history.specs.declared.entry.End.TheVariants as end
use Rattle.history.specs.declared.entry.Word.TheVariants as word
use Rattle.history.specs.declared.fault.Fault.TheVariants as fault
use Rattle.monitor.specs.Acquire.{EndsAtOnce, EndsUnrecorded, LimitsFor, WasInterrupted, WasNotInterrupted, is_interruptible, is_timed}
use Rattle.monitor.specs.Load.{holds_of}
use Rattle.monitor.specs.Shown.{Shown}
use Rattle.monitor.specs.Waits.{ComesOf, EndComesOf, IsMade, IsLast, IsNotLost, on_condition}
use Rattle.monitor.specs.declared.how.How.{How}
use Rattle.monitor.specs.declared.how.How.TheVariants.{Timed}
use Rattle.monitor.specs.declared.waiting.Limits.{Limits}
use Rattle.monitor.specs.declared.waiting.Stage.{Stage}
use Rattle.monitor.specs.declared.waiting.Stage.TheVariants.{Expires, Parks}

-- an await without time expires before it parks
abbrev pub stage_by : Bool → Stage
stage_by true = Expires
stage_by false = Parks

abbrev pub first_stage : How → Stage
first_stage (Timed ms) = stage_by (ms == 0)
first_stage _ = Parks

-- how an await is refused
abbrev pub IsAwaitRefused : (Deed → Type 0) → ℕ → How → ℕ → Step → Word → Type 0
IsAwaitRefused did i how c step w =
    ((step ≡ Await c) × ((w ≡ word.Refused fault.NotOwner) ⊎ (w ≡ word.Refused fault.HoldsRead))
    × WasNotInterrupted did i how)
    ⊎ ((step ≡ EntryInterrupt X 1) × (w ≡ word.Refused fault.Interrupted) × WasInterrupted did i how)

-- the ends of an await that wasn't signalled
abbrev pub MayLapseFor : How → End → Type 0
MayLapseFor how end.Timeout = is_timed how
MayLapseFor how end.Interrupt = is_interruptible how ≡ true
MayLapseFor how _ = ⊥

-- A lapse by the end of its time or an interrupt, which a park told, but for the time that was up at once; and
-- the end of the await after it, by a look.
pub record LapsesAndReturns (did : Deed → Type 0) (old : Shown) (how : How) (limits : Limits) (slept : Entry)
    (back_step : Step) (e : Entry) (new : Shown) : Type 0 where
  pub end : End
  pub may : MayLapseFor how end
  pub step : Step
  pub comes : ComesOf did old.seat limits (first_stage how) step
  pub lapse : IsMade did old step (lapse_from old.seat (signalled slept.at slept.n) end) new.seen
  pub looks : back_step ≡ Look
  pub back : e ≡ back_from old.seat (lapsed (signalled slept.at slept.n) end)
  pub mine : new.mine ≡ e ∷ lapse_from old.seat (signalled slept.at slept.n) end ∷ slept ∷ old.mine

-- it came back as it was signalled, by the step that a park led to, but for the time that was up at once
pub record ReturnsSignalled (did : Deed → Type 0) (old : Shown) (how : How) (limits : Limits) (slept : Entry)
    (step : Step) (e : Entry) (new : Shown) : Type 0 where
  pub comes : EndComesOf did old.seat limits (first_stage how) (on_condition (signalled slept.at slept.n))
      (IsNotLost did old.seat (Ok e)) step
  pub back : e ≡ back_from old.seat (signalled slept.at slept.n)
  pub mine : new.mine ≡ e ∷ slept ∷ old.mine

-- An await that slept, and came back as it was signalled or after its lapse. It gave up all that the pass held. An
-- interrupt that ended one of its parks is told by the entry, or pending again.
pub record EndsAwait (did : Deed → Type 0) (old : Shown) (c : ℕ) (how : How) (e : Entry)
    (new : Shown) : Type 0 where
  pub not_interrupted : WasNotInterrupted did old.seat how
  pub slept : Entry
  pub await : slept.word ≡ word.Await
  pub gave_up : slept.n ≡ holds_of old X
  pub sleeps : IsMade did old (Await c) slept new.seen
  pub limits : Limits
  pub limited : LimitsFor did old.seen how limits
  pub step : Step
  pub made : IsMade did old step e new.seen
  pub last : IsLast e new.seen
  pub end :
      ReturnsSignalled did old how limits slept step e new
      ⊎ LapsesAndReturns did old how limits slept step e new
  pub again : step ≡ Interrupt → IsNotLost did old.seat (Ok e)

-- the entries of an await, by its answer
abbrev pub IsAwait : (Deed → Type 0) → Shown → ℕ → How → Result Entry Fault → Shown → Type 0
IsAwait did old c how (Ok e) new =
    ((step : Step) × IsAwaitRefused did old.seat how c step e.word × EndsAtOnce did old step e new)
    ⊎ EndsAwait did old c how e new
IsAwait did old c how (Err f) new = EndsUnrecorded did old how (Await c) (EntryInterrupt X 1) f new
