-- Who is ready, who sleeps, and the entry that a step makes.
use Rattle.std.proofs.Common.{◌≡◌, ℕ, ◌<◌, arith, Option, Some, None, Ok, sym, subst, Result, Err, IfOk, IfSome}
use Rattle.frame.specs.Below.{Entry, Fault, Step, entry_for}
use Rattle.history.proofs.Answering.{entry_seat}
use Rattle.frame.specs.Core.{CoreView, start_of, IsNext}

-- the entry that a step makes may be added now
pub step_next : (v : CoreView) (i : ℕ) (step : Step) (e : Entry) → i < v.header.seats →
    entry_for (start_of v) v.entries i step ≡ Ok (Some e) → IsNext v e
step_next v i step e l q =
    let same : i ≡ e.seat = sym (entry_seat (start_of v) v.entries i step e q) in
    record {
      seat = omega (arith, l, same);
      step = step;
      made = subst (λ j. entry_for (start_of v) v.entries j step ≡ Ok (Some e)) same q;
    }

pub made_next : (v : CoreView) (i : ℕ) (step : Step) (made : Result (Option Entry) Fault) →
    i < v.header.seats →
    made ≡ entry_for (start_of v) v.entries i step → IfOk made (λ entry. IfSome entry (λ e. IsNext v e))
made_next v i step (Ok (Some e)) l q = step_next v i step e l (sym q)
made_next v i step (Ok None) l q = tt
made_next v i step (Err f) l q = tt
