-- What the fast way counts.
use Rattle.std.proofs.Common.{◌≡◌, ℕ, ◌+◌, [], ◌∷◌, Option, Ok, refl, sym, ap, ◌∙◌}
use Rattle.monitor.specs.Below.{Recorded, Step, Acquire, Try, TryFair, Give, ended_calls, entry_at_once, made_by}

-- each entry that is made at once ends a call
ends_one : (i : ℕ) (step : Step) → ended_calls (entry_at_once i step ∷ []) ≡ 1
ends_one i (Acquire m n) = refl
ends_one i (TryFair m n) = refl
ends_one i (Try m n) = refl
ends_one i (Give m n) = refl
ends_one i _ = refl

pub one_more : (i : ℕ) (step : Step) (name : Option ℕ) (next share : ℕ) → next ≡ 1 + share →
    next ≡ ended_calls (made_by (Ok (Recorded (entry_at_once i step) name))) + share
one_more i step name next share is = is ∙ sym (ap (λ k. k + share) (ends_one i step))
