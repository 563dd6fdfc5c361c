-- Waits one after another.
use Rattle.std.proofs.Common.{◌≡◌, ◌-◌, ◌^◌, ◌≤◌, min, ℕ, suc, Bool, true, Result, Ok, Err, subst, arith}
use Rattle.std.specs.Result.{IfErr, IfOk}
use Rattle.guarded.specs.Below.{AreLeft, Deed, Fault, Shown, moment_after, showed}
use Rattle.guarded.specs.Prelude.{Sees, HasCome, Owner, TimeWasUp, WaitFailed, Waited, WaitsWhile}

-- one call more, of a guard whose lock and parking are still those of the first
module _ {T I L P : Type 0} (says : T → Bool → Type 0)
    (call : L → P → Shown → Shown → Result Bool Fault → Type 0) {l m : L} {p q : P} {old front : Owner T I}
    (new : Owner T I) (lock : m ≡ l) (parking : q ≡ p)
    (so_far : Waited (WaitsWhile says (call l p)) old front) (sees : Sees says front.slot true) where
  one_more : (returned : Result Bool Fault) → call m q front.pass new.pass returned →
      WaitsWhile says (call l p) front new returned
  one_more returned made =
      record {
        sees = sees;
        waits = subst (λ (x : _). call x p front.pass new.pass returned) lock
            (subst (λ (x : _). call m x front.pass new.pass returned) parking made);
      }

  pub waited_again : (signalled : Bool) → call m q front.pass new.pass (Ok signalled) →
      Waited (WaitsWhile says (call l p)) old new
  waited_again signalled made = (suc so_far.0, (front, signalled, so_far.1, one_more (Ok signalled) made))

  pub then_failed : (fault : Fault) → call m q front.pass new.pass (Err fault) →
      WaitFailed (WaitsWhile says (call l p)) old new fault
  then_failed fault made = (front, so_far, one_more (Err fault) made)

-- if no milliseconds are left until a moment, it has come
pub has_come : (did : Deed → Type 0) (end ms : ℕ) → AreLeft did end ms → ms ≡ 0 → HasCome did end
has_come did end ms left none = (left.0, left.1, by left.0 left.2)
  where
    by : (moment : ℕ) → ms ≡ min (end - moment) (2 ^ 32 - 1) → end ≤ moment
    by moment is = omega (arith, is, none)

-- the end of so many milliseconds has come, which began when the clock showed a moment
pub was_up : (did : Deed → Type 0) (begun ms end : ℕ) → did (showed begun) → end ≡ moment_after begun ms →
    HasCome did end → TimeWasUp did ms
was_up did begun ms end shown is come =
    (begun, shown, subst (λ (m : ℕ). HasCome did m) is come)

-- what is so of a result until a moment is so for the milliseconds to it
module _ (did : Deed → Type 0) (begun ms end : ℕ) (shown : did (showed begun)) (is : end ≡ moment_after begun ms) where
  pub ok_since : {A E : Type 0} (p : ℕ → A → Type 0) (r : Result A E) → IfOk r (p end) →
      IfOk r (λ a. (from : ℕ) × did (showed from) × p (moment_after from ms) a)
  ok_since {A} {E} p (Ok a) so = (begun, shown, subst (λ (m : ℕ). p m a) is so)
  ok_since p (Err e) so = tt

  pub err_since : {A E : Type 0} (p : ℕ → E → Type 0) (r : Result A E) → IfErr r (p end) →
      IfErr r (λ e. (from : ℕ) × did (showed from) × p (moment_after from ms) e)
  err_since p (Ok a) so = tt
  err_since {A} {E} p (Err e) so = (begun, shown, subst (λ (m : ℕ). p m e) is so)
