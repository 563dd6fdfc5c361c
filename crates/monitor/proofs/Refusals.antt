-- A call that failed at once has left what it carries.
use Rattle.std.proofs.Common.{◌≡◌, inl, inr, ℕ, Bool, true, false, Result, Ok, Err, refl, ap, ◌∙◌}
use Rattle.monitor.specs.Below.{Arrival, Entry, Fault, Answer, Recorded, Sleep, Step, Acquire, Try, TryFair, Give, entry_at_once, Deed}
use Rattle.monitor.specs.Prelude.{is_refused, was_refused, begins_wait, begun, first_turn, next_by, How, Ends, Request, Waiting, Shown, Cause, in_line, on_condition, on_way_back}
use Rattle.monitor.specs.Waits.{Waits}
use Rattle.monitor.specs.declared.waiting.Limits.{Limits}
use Rattle.monitor.specs.declared.waiting.Stage.{Stage}
use Rattle.monitor.specs.inner.Stepping.{entry_in}
use Rattle.monitor.specs.inner.Waits.{EndsBy, EndsLapsed, IsEnd, IsReply, IsWait}

refused_next : (b : Bool) (w : Waiting) (e : Entry) (reply : Result Entry Fault) (again : Bool) →
    next_by b w e ≡ Ends reply again → was_refused reply ≡ true → is_refused e.word ≡ true
refused_next true w e reply again ends is = cc
refused_next false w e reply again ends is = let same : Ok e ≡ reply = cc in ap was_refused same ∙ is

-- a first turn that ends the call with a failure comes of a step that failed
pub turn_refused : (q : Request) (how : How) (moment : ℕ) (was : Bool) (r : Result Answer Fault)
    (reply : Result Entry Fault) (again : Bool) → (first_turn q how moment was r).next ≡ Ends reply again →
    was_refused reply ≡ true → was_refused (entry_in r) ≡ true
turn_refused q how moment was (Ok (Recorded e name)) reply again ends is =
    refused_next (begins_wait q e.word) (begun q how moment) e reply again ends is
turn_refused q how moment was (Ok Sleep) reply again ends is = refl
turn_refused q how moment was (Err f) reply again ends is = refl

-- what is done at once is no refusal
pub done_not_refused : (i : ℕ) (step : Step) → is_refused (entry_at_once i step).word ≡ false
done_not_refused i (Acquire m n) = refl
done_not_refused i (TryFair m n) = refl
done_not_refused i (Try m n) = refl
done_not_refused i (Give m n) = refl
done_not_refused i _ = refl

-- and no wait ends by one
end_not_refused : (l : Limits) (i : ℕ) (a : Arrival) (e : Entry) → IsEnd l i a e → is_refused e.word ≡ false
end_not_refused l i a e (inl is) = ap (λ (z : Entry). is_refused z.word) is
end_not_refused l i a e (inr (inl x)) = ap (λ (z : Entry). is_refused z.word) x.0
end_not_refused l i a e (inr (inr x)) = ap (λ (z : Entry). is_refused z.word) x.0

ends_not_refused : (l : Limits) (i : ℕ) (k : Cause) (e : Entry) → EndsBy l i k e → is_refused e.word ≡ false
ends_not_refused l i (in_line a) e is = end_not_refused l i a e is
ends_not_refused l i (on_condition w) e is = ap (λ (z : Entry). is_refused z.word) is
ends_not_refused l i (on_way_back w) e is = ap (λ (z : Entry). is_refused z.word) is

lapsed_not_refused : (did : Deed → Type 0) (first : Shown) (k : Cause) (s : Stage) (l : Limits) (step : Step)
    (e : Entry) (new : Shown) → EndsLapsed did first k s l step e new → is_refused e.word ≡ false
lapsed_not_refused did first (in_line a) s l step e new x = absurd x
lapsed_not_refused did first (on_condition w) s l step e new x = ap (λ (z : Entry). is_refused z.word) x.back
lapsed_not_refused did first (on_way_back w) s l step e new x = absurd x

wait_not_refused : (did : Deed → Type 0) (first : Shown) (k : Cause) (s : Stage) (l : Limits) (e : Entry)
    (new : Shown) → IsWait did first k s l e new → is_refused e.word ≡ false
wait_not_refused did first k s l e new x =
    elim x.end [
      | inl y ↦ ends_not_refused l first.seat k e y.1
      | inr y ↦ lapsed_not_refused did first k s l x.step e new y
    ]

pub reply_not_refused : (did : Deed → Type 0) (first : Shown) (s : Stage) (l : Limits) (r : Result Entry Fault)
    (new : Shown) → Waits first.seen first.seat → IsReply did first s l r new → was_refused r ≡ true → ⊥
reply_not_refused did first s l (Ok e) new waits is refused =
    let not_so = wait_not_refused did first waits.0 s l e new (is waits.0 waits.1) in cc
reply_not_refused did first s l (Err f) new waits is refused = is
