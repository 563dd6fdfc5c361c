-- What a step of a pass leaves.
use Rattle.std.specs.Prelude.{false, ◌≡◌, ◌⊎◌, if◌then◌else◌, ℕ, ◌++◌, Option, Some, None, Result, Ok, Err, IsOk, IfOk}
use Rattle.monitor.specs.Below.{HistoryFull, OutOfMemory, entry_for, was_owed, has_room, Entry, Fault, Answer, Recorded, Step, IsAnswered, IsTold, IsTrimmed, MakesOwed, NamesBelow, made_by, Point, LockId, Deed, unparked, Before, Agrees}
use Rattle.monitor.specs.Lawful.{view_of, Beside, IsLawful, start_at}
use Rattle.monitor.specs.Shown.{Shown}
use Rattle.monitor.specs.declared.step.Now.{Now}
use Rattle.monitor.specs.declared.step.Now.TheVariants.{Done, Busy}

-- the pass is of the same monitor and seat
pub record IsSame (old new : Shown) : Type 0 where
  pub lock : new.lock ≡ old.lock
  pub seat : new.seat ≡ old.seat

-- The step found a history that comes after what was seen, and which has no entries of the seat but those
-- that the pass knows. What it left, the marks of who was told, and the answer are those of the core's step.
pub record IsStep (old : Shown) (step : Step) (r : Result Answer Fault) (new : Shown) : Type 0 where
  pub found : Point
  pub begins : Before old.seen found
  pub lawful : IsLawful found
  pub agrees : Agrees found old.seat old.mine
  pub beside : Beside  -- what the core had beside its point
  pub beside_left : Beside  -- and has then
  pub answered : IsAnswered (view_of found beside) old.seat step r (view_of new.seen beside_left)
  pub told : IsTold (view_of found beside) old.seat r (view_of new.seen beside_left)
  pub owed : MakesOwed (view_of found beside) old.seat step → IsOk r
  -- whom the answer names is a seat of the object
  pub names : IfOk r (λ answer. NamesBelow old.lock.header.seats answer)
  pub after : Before old.seen new.seen
  pub mine : new.mine ≡ made_by r ++ old.mine

-- Why a step of a seat recorded nothing: the fault that the definitions give, or its entry, which was not owed, found
-- no room or no memory.
abbrev pub IsFaultOf : Point → ℕ → Step → Fault → Type 0
IsFaultOf p i step f =
    (entry_for (start_at p) p.entries i step ≡ Err f)
    ⊎ ((e : Entry) × (entry_for (start_at p) p.entries i step ≡ Ok (Some e))
    × (was_owed p.base.header.object e ≡ false)
    × (f ≡ (if has_room (start_at p) p.entries e then OutOfMemory else HistoryFull)))

-- The step found a history that comes after what was seen, and recorded nothing.
pub record IsFailed (old : Shown) (step : Step) (f : Fault) (new : Shown) : Type 0 where
  pub begins : Before old.seen new.seen
  pub lawful : IsLawful new.seen
  pub agrees : Agrees new.seen old.seat old.mine
  pub why : IsFaultOf new.seen old.seat step f
  pub mine : new.mine ≡ old.mine

abbrev pub answer_of : Result Now Fault → Option (Result Answer Fault)
answer_of (Ok (Done answer)) = Some (Ok answer)
answer_of (Ok Busy) = None
answer_of (Err fault) = Some (Err fault)

-- a step that waits for nobody
abbrev pub IsStepNow : Shown → Step → Result Now Fault → Shown → Type 0
IsStepNow old step (Ok (Done answer)) new = IsStep old step (Ok answer) new
IsStepNow old step (Ok Busy) new = new ≡ old
IsStepNow old step (Err fault) new = IsStep old step (Err fault) new

-- Here and in what follows, `did deed` says that this was done at the place where the seats park, or shown by
-- its clock.

-- The seat that a step named, if it named one, was unparked by one who had seen just so much under this lock.
-- Nobody has seen an entry there before the step that makes it.
abbrev pub IsUnparked : (Deed → Type 0) → LockId → Option ℕ → Point → Type 0
IsUnparked did lock None seen = Unit {0}
IsUnparked did lock (Some j) seen = did (unparked j lock seen)

-- a step that recorded its entry, and the seat that it named was unparked after it; or a step that was refused
abbrev pub IsEntered : (Deed → Type 0) → Shown → Step → Result Entry Fault → Shown → Type 0
IsEntered did old step (Ok e) new =
    (named : Option ℕ) × IsStep old step (Ok (Recorded e named)) new × IsUnparked did old.lock named new.seen
IsEntered did old step (Err f) new = IsStep old step (Err f) new

-- A trim found such a history, and folded it, or there were too many entries. It has added nothing.
pub record IsTrim (old : Shown) (r : Result ℕ Fault) (new : Shown) : Type 0 where
  pub found : Point
  pub begins : Before old.seen found
  pub lawful : IsLawful found
  pub agrees : Agrees found old.seat old.mine
  pub beside : Beside  -- what the core had beside its point
  pub beside_left : Beside  -- and has then
  pub trimmed : IsTrimmed (view_of found beside) r (view_of new.seen beside_left)
  pub after : Before old.seen new.seen
  pub mine : new.mine ≡ old.mine
  pub share : new.share ≡ old.share

-- how many entries are folded in all, after a trim that folded so many
abbrev pub in_all : Result ℕ Fault → ℕ → Result ℕ Fault
in_all (Ok count) folded = Ok folded
in_all (Err fault) folded = Err fault

-- a trim, which returned that
abbrev pub IsTrimInAll : Shown → Result ℕ Fault → Shown → Type 0
IsTrimInAll old r new =
    (count : Result ℕ Fault) × IsTrim old count new × (r ≡ in_all count new.seen.base.entries)
