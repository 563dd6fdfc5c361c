-- How a wait goes on and ends, which only the contracts of private functions cite.
use Rattle.std.specs.Prelude.{◌≡◌, ◌⊎◌, ℕ, true, ◌∷◌, IsSome, Result, Ok, Err}
use Rattle.monitor.specs.Below.{Arrival, End, Entry, Fault, Step, Look, Interrupt, ended, Deed, Point, lapsed, back_from, lapse_from}
use Rattle.history.specs.declared.entry.End.TheVariants as end
use Rattle.history.specs.declared.entry.Word.TheVariants as word
use Rattle.history.specs.Start.{Sleep}
use Rattle.monitor.specs.Shown.{Shown}
use Rattle.monitor.specs.declared.waiting.Limits.{Limits}
use Rattle.monitor.specs.declared.waiting.Stage.{Stage}
use Rattle.monitor.specs.declared.waiting.Stage.TheVariants.{Expires, Parks}
use Rattle.monitor.specs.Waits.{IsMade, IsLast, Cause, in_line, on_condition, on_way_back, WaitsAs, ComesOf, IsNotLost, EndComesOf}

-- the stages at which a wait begins: none expires without a deadline
abbrev pub MayBegin : Limits → Stage → Type 0
MayBegin l Expires = IsSome l.until
MayBegin l Parks = Unit {0}
MayBegin l _ = ⊥

-- how a wait in line may end
abbrev pub IsEnd : Limits → ℕ → Arrival → Entry → Type 0
IsEnd l i a e =
    (e ≡ ended i word.Granted a end.None)
    ⊎ ((e ≡ ended i word.Left a end.Timeout) × IsSome l.until)
    ⊎ ((e ≡ ended i word.Left a end.Interrupt) × (l.interruptible ≡ true))

abbrev pub EndsBy : Limits → ℕ → Cause → Entry → Type 0
EndsBy l i (in_line a) e = IsEnd l i a e
EndsBy l i (on_condition w) e = e ≡ back_from i w
EndsBy l i (on_way_back w) e = e ≡ back_from i w

-- by what a sleeper may lapse
abbrev pub MayLapse : Limits → End → Type 0
MayLapse l end.Timeout = IsSome l.until
MayLapse l end.Interrupt = l.interruptible ≡ true
MayLapse l _ = ⊥

-- a sleeper has lapsed, and its lapse was made after what had been seen
pub record HasLapsed (did : Deed → Type 0) (first : Shown) (w : Sleep) (s : Stage) (l : Limits) (how : End)
    (now : Point) : Type 0 where
  pub may : MayLapse l how
  pub step : Step
  pub comes : ComesOf did first.seat l s step
  pub made : IsMade did first step (lapse_from first.seat w how) now

-- the await ended after its lapse
pub record BackFromLapse (did : Deed → Type 0) (first : Shown) (w : Sleep) (s : Stage) (l : Limits)
    (step : Step) (e : Entry) (new : Shown) : Type 0 where
  pub how : End
  pub lapse : HasLapsed did first w s l how new.seen
  pub looks : step ≡ Look
  pub back : e ≡ back_from first.seat (lapsed w how)
  pub mine : new.mine ≡ e ∷ lapse_from first.seat w how ∷ first.mine

-- one that slept lapsed before it came back
abbrev pub EndsLapsed : (Deed → Type 0) → Shown → Cause → Stage → Limits → Step → Entry → Shown → Type 0
EndsLapsed did first (on_condition w) s l step e new = BackFromLapse did first w s l step e new
EndsLapsed did first _ s l step e new = ⊥

-- One who waited recorded the entry that ended its wait, and before it no more than its own lapse. If an interrupt
-- ended one of its parks, the entry tells it or it is pending again. A lapse by an interrupt is told by what comes
-- after it.
pub record IsWait (did : Deed → Type 0) (first : Shown) (k : Cause) (s : Stage) (l : Limits) (e : Entry)
    (new : Shown) : Type 0 where
  pub step : Step
  pub made : IsMade did first step e new.seen
  pub last : IsLast e new.seen
  pub end :
      ((new.mine ≡ e ∷ first.mine) × EndsBy l first.seat k e
      × EndComesOf did first.seat l s k (IsNotLost did first.seat (Ok e)) step)
      ⊎ EndsLapsed did first k s l step e new
  pub again : step ≡ Interrupt → IsNotLost did first.seat (Ok e)

abbrev pub IsWaited : (Deed → Type 0) → Shown → Stage → Limits → Entry → Shown → Type 0
IsWaited did first s l e new = (k : Cause) → WaitsAs first.seen first.seat k → IsWait did first k s l e new

-- it replied with the entry that ended its wait
abbrev pub IsReply : (Deed → Type 0) → Shown → Stage → Limits → Result Entry Fault → Shown → Type 0
IsReply did first s l (Ok e) new = IsWaited did first s l e new
IsReply did first s l (Err f) new = ⊥
