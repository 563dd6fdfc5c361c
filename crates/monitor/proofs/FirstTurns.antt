-- The first turn of a call: whom it names, and how the call ends by it or after it.
use Rattle.std.proofs.Common.{◌≡◌, ◌≢◌, ℕ, Bool, false, Option, Result, Ok, Err, refl, ap, subst}
use Rattle.monitor.specs.Below.{Entry, Fault, Answer, Recorded, Sleep, Step, Acquire, Try, TryFair, Give, waits, entry_at_once, Deed, Before}
use Rattle.monitor.specs.Prelude.{WasNotInterrupted, IsBegun, IsCall, begins_wait, begun, first_turn, next_by, step_by, Shown, IsSound, IsEntered, IsSame, IsStep, IsUnparked, How, Waits, Request, Turn, Waiting}
use Rattle.monitor.specs.declared.machine.Request.TheVariants as request
use Rattle.monitor.specs.inner.Machine.{WasShown}
use Rattle.monitor.specs.inner.Stepping.{entry_in, named_in}
use Rattle.monitor.specs.inner.Waits.{IsReply}
use Rattle.monitor.proofs.InLine.{no_sleep}
use Rattle.monitor.proofs.TurnByTurn.{begun_ends, begun_waits, step_idle, waited_ends}

pub awake : (old new : Shown) (step : Step) (r : Result Answer Fault) → waits step ≡ false → IsStep old step r new →
    r ≢ Ok Sleep
awake old new step r idle s is =
    no_sleep old new step idle (subst (λ (z : Result Answer Fault). IsStep old step z new) is s)

pub awake_first : (old new : Shown) (q : Request) (how : How) (was : Bool) (r : Result Answer Fault) →
    IsStep old (step_by q how was) r new → r ≢ Ok Sleep
awake_first old new q how was r s = awake old new (step_by q how was) r (step_idle q how was) s

-- a step of an idle seat, with its entry or a fault
pub entered_in : (did : Deed → Type 0) (old new : Shown) (step : Step) (r : Result Answer Fault) →
    waits step ≡ false → IsUnparked did old.lock (named_in r) new.seen → IsStep old step r new →
    IsEntered did old step (entry_in r) new
entered_in did old new step (Ok (Recorded e name)) idle woken s = (name, s, woken)
entered_in did old new step (Ok Sleep) idle woken s = absurd (no_sleep old new step idle s)
entered_in did old new step (Err f) idle woken s = s

-- a call that was done at once
no_wait : (q : Request) (i : ℕ) (step : Step) → begins_wait q (entry_at_once i step).word ≡ false
no_wait (request.Acquire a b) i (Acquire m n) = refl
no_wait (request.Acquire a b) i (TryFair m n) = refl
no_wait (request.Acquire a b) i (Try m n) = refl
no_wait (request.Acquire a b) i (Give m n) = refl
no_wait (request.Acquire a b) i _ = refl
no_wait (request.AwaitOn c) i (Acquire m n) = refl
no_wait (request.AwaitOn c) i (TryFair m n) = refl
no_wait (request.AwaitOn c) i (Try m n) = refl
no_wait (request.AwaitOn c) i (Give m n) = refl
no_wait (request.AwaitOn c) i _ = refl

pub made_at_once : (did : Deed → Type 0) (old new : Shown) (q : Request) (how : How) (name : Option ℕ) →
    WasNotInterrupted did old.seat how →
    IsStep old (step_by q how false) (Ok (Recorded (entry_at_once old.seat (step_by q how false)) name)) new →
    IsUnparked did old.lock name new.seen → IsCall did old q how (Ok (entry_at_once old.seat (step_by q how false))) new
made_at_once did old new q how name none s woken =
    let e = entry_at_once old.seat (step_by q how false) in
    begun_ends did old new how none q 0 (first_turn q how 0 false (Ok (Recorded e name))) (Ok e) false
    (Ok (Recorded e name), s, refl) woken
    (ap (λ b. next_by b (begun q how 0) e) (no_wait q old.seat (step_by q how false)))

-- a call that waited after its first turn
pub waited : (did : Deed → Type 0) (old new last : Shown) (q : Request) (how : How) (moment : ℕ) (t : Turn)
    (next : Waiting) (reply : Result Entry Fault) → WasNotInterrupted did old.seat how →
    IsBegun old q how moment false t new → IsUnparked did old.lock t.named new.seen → t.next ≡ Waits next →
    IsSame old new → IsSound new → WasShown did old.seen how moment → Before new.seen last.seen →
    IsReply did new next.stage next.limits reply last → IsCall did old q how reply last
waited did old new last q how moment t next reply none begins woken due same shows shown later waits =
    let x = begun_waits did old new q how moment t next begins woken due in
    waited_ends did old new last q how moment reply none x.0 same shows shown later
    (subst (λ (z : Waiting). IsReply did new z.stage z.limits reply last) x.1 waits)
