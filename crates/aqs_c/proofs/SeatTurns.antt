-- Who waits after the turns of its call, and after what changes nothing of it.
use Rattle.std.proofs.Common.{◌≡◌, inl, inr, ℕ, List, Option, Some, None, Result, Ok, refl, sym, ◌∙◌, subst, IfNone, IfSome, MatchOption}
use Rattle.aqs_c.specs.Below.{Entry, Fault, Step, Agrees, Before, LeavesWaiting, IsQuietLook, Shown, IsSound, IsSame, IsTrim, IsStep, entry_at_once, WaitsAs, Next, Waiting, LockId}
use Rattle.history.specs.declared.step.Answer.TheVariants as answer
use Rattle.monitor.specs.declared.machine.Next.TheVariants as next
use Rattle.monitor.proofs.Looking.{not_looked}
use Rattle.monitor.proofs.Turns.{still_waiting}
use Rattle.aqs_c.specs.Calls.{IsSeatLook, IsSeatStepAtOnce}
use Rattle.aqs_c.specs.Codes.{IsCodeOf, done_number}
use Rattle.aqs_c.specs.Seated.{seated, waiting_in}
use Rattle.aqs_c.specs.Standing.{IsSeat, StandsBy}
use Rattle.aqs_c.specs.declared.steps.AqsStep.{AqsStep}

pub stands_left : (n : Next) (p : Shown) → LeavesWaiting n p → StandsBy (waiting_in n) p
stands_left (next.Ends reply again) p left = tt
stands_left (next.Waits w) p left = left

-- who waits still does after what adds no entry of its seat
stands_later : (old new : Shown) (waiting : Option Waiting) → IsSound old → IsSound new → new.seat ≡ old.seat →
    Before old.seen new.seen → new.mine ≡ old.mine → StandsBy waiting old → StandsBy waiting new
stands_later old new None was shows seat later mine stands = tt
stands_later old new (Some w) was shows seat later mine stands =
    let here : WaitsAs new.seen old.seat stands.0 =
    still_waiting old.seen new.seen old.seat old.mine stands.0 was.lawful shows.lawful later was.agrees
    (subst (λ (i : ℕ). Agrees new.seen i old.mine) seat
    (subst (λ (es : List Entry). Agrees new.seen new.seat es) mine shows.agrees)) stands.1 in (
      stands.0,
      subst (λ (i : ℕ). WaitsAs new.seen i stands.0) (sym seat) here,
    )

pub stands_looked : (old new : Shown) (waiting : Option Waiting) → IsSound old → IsQuietLook old new →
    StandsBy waiting old → StandsBy waiting new
stands_looked old new waiting was look stands =
    stands_later old new waiting was look.shows look.seat look.begins look.mine stands

pub stands_trimmed : (old new : Shown) (waiting : Option Waiting) (r : Result ℕ Fault) → IsSound old →
    IsSound new → IsSame old new → IsTrim old r new → StandsBy waiting old → StandsBy waiting new
stands_trimmed old new waiting r was shows same trim stands =
    stands_later old new waiting was shows same.seat trim.after trim.mine stands

-- A seat stays one whose pass looked or folded, or found the object busy.
pub seat_read : {A : Type 0} (lock : LockId) (old new : Shown) (waiting : Option Waiting) (r : Option A) →
    IsSound old → IfNone r (new ≡ old) → IfSome r (λ _. IsQuietLook old new) →
    IsSeat lock old waiting → IsSeat lock new waiting
seat_read lock old new waiting None was busy looked seat =
    subst (λ (p : Shown). IsSeat lock p waiting) (sym busy) seat
seat_read lock old new waiting (Some a) was busy looked seat =
    (looked.lock ∙ seat.0, stands_looked old new waiting was looked seat.1)

pub seat_trimmed : (lock : LockId) (old new : Shown) (waiting : Option Waiting) (r : Option (Result ℕ Fault)) →
    IsSound old → IsSound new → IsSame old new → MatchOption r (new ≡ old) (λ count. IsTrim old count new) →
    IsSeat lock old waiting → IsSeat lock new waiting
seat_trimmed lock old new waiting None was shows same busy seat =
    subst (λ (p : Shown). IsSeat lock p waiting) (sym busy) seat
seat_trimmed lock old new waiting (Some count) was shows same trim seat =
    (same.lock ∙ seat.0, stands_trimmed old new waiting count was shows same trim seat.1)

-- a seat of which nothing was asked
pub seat_stays : (p : Shown) (waiting : Option Waiting) → IsSound p → IsSeatLook (seated p waiting) (seated p waiting)
seat_stays p waiting shows = record { looked = not_looked p shows; waiting = refl }

-- a step that was done at once, or not
pub at_once : (old new : Shown) (s : Step) (code : AqsStep) (done : Option (Option ℕ)) (number : ℕ) →
    IsCodeOf s code → number ≡ done_number done →
    IfSome done (λ named. IsStep old s (Ok (answer.Recorded (entry_at_once old.seat s) named)) new) →
    IfNone done (IsQuietLook old new) → IsSeatStepAtOnce (seated old None) code number (seated new None)
at_once old new s code None number is_code is step look = inl (is, record { looked = look; waiting = refl })
at_once old new s code (Some named) number is_code is step look =
    inr (record {
      step = s;
      named = named;
      is_code = is_code;
      idle = refl;
      made = step;
      waiting = refl;
      is_number = is;
    })
