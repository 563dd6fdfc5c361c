-- A turn after which the call waits leaves its seat waiting.
use Rattle.std.proofs.Common.{◌≡◌, inl, inr, ℕ, Bool, true, false, List, Option, Some, None, Result, Ok, Err, refl, sym, ap, ◌∙◌, subst}
use Rattle.monitor.specs.Below.{lapsed, Base, Entry, Fault, Point, Answer, Recorded, Sleep, Step, Deed, Woke, LockId}
use Rattle.monitor.specs.Prelude.{IsBegun, IsGoneOn, LeavesWaiting, later_turn, next_behind, step_of_waiting, Shown, IsSound, IsSame, IsUnparked, Cause, in_line, is_lapse, on_condition, on_way_back, How, Ends, Waits, Request, Turn, Waiting}
use Rattle.monitor.specs.Waits as of_waits
use Rattle.monitor.specs.declared.machine.Next.{Next}
use Rattle.monitor.proofs.TurnByTurn.{begun_waits, never_waits, step_waits, waits_now}
use Rattle.monitor.proofs.Turns.{TurnMakes, no_lapse, turn}
use Rattle.monitor.proofs.Turns as turns

-- nobody is asked for a deed here, so any will do
abbrev any_deed : Deed → Type 0
any_deed d = Unit {0}

unparked_any : (lock : LockId) (named : Option ℕ) (seen : Point) → IsUnparked any_deed lock named seen
unparked_any lock None seen = tt
unparked_any lock (Some j) seen = tt

waits_begun : (old new : Shown) (q : Request) (how : How) (moment : ℕ) (was : Bool) (t : Turn) (w : Waiting) →
    IsBegun old q how moment was t new → IsSame old new → t.next ≡ Waits w → of_waits.Waits new.seen new.seat
waits_begun old new q how moment true t w b same is = absurd (never_waits old new q how moment t w b is)
waits_begun old new q how moment false t w b same is =
    waits_now any_deed old new q how (λ minds. tt)
    (begun_waits any_deed old new q how moment t w b (unparked_any old.lock t.named new.seen) is).0 same

pub left_begun : (old new : Shown) (q : Request) (how : How) (moment : ℕ) (was : Bool) (t : Turn) →
    IsBegun old q how moment was t new → IsSame old new → LeavesWaiting t.next new
left_begun old new q how moment was t b same = by t.next refl
  where
    by : (n : Next) → t.next ≡ n → LeavesWaiting n new
    by (Ends reply again) e = tt
    by (Waits w) e = waits_begun old new q how moment was t w b same e

-- who lapses is on its way back
waits_lapsed : (b : Base) (l : List Entry) (i : ℕ) (k : Cause) (s : Step) (e : Entry) →
    TurnMakes b l i k s e → is_lapse e.word ≡ true → of_waits.Waits (record { base = b; entries = l }) i
waits_lapsed b l i (in_line a) s e m q = let z = no_lapse s i a e m in cc
waits_lapsed b l i (on_condition w) s e (inl m) q = let z = ap (λ (x : Entry). is_lapse x.word) m in cc
waits_lapsed b l i (on_condition w) s e (inr m) q = (on_way_back (lapsed w m.0), m.3)
waits_lapsed b l i (on_way_back w) s e m q = let z = ap (λ (x : Entry). is_lapse x.word) m in cc

-- who waits after a later turn
waits_gone : (old new : Shown) (k : Cause) (w : Waiting) (s : Step) (r : Result Answer Fault) (n : Waiting) →
    turns.Turn old k s r new → (later_turn w s r).next ≡ Waits n → of_waits.Waits new.seen old.seat
waits_gone old new k w s (Ok Sleep) n t is = (k, t.0)
waits_gone old new k w s (Err f) n t is = absurd t
waits_gone old new k w s (Ok (Recorded e name)) n t is = by (is_lapse e.word) refl is
  where
    by : (b : Bool) → is_lapse e.word ≡ b → next_behind b w s e ≡ Waits n → of_waits.Waits new.seen old.seat
    by true q u = waits_lapsed new.seen.base new.seen.entries old.seat k s e t q
    by false q u = cc

pub left_gone : (old new : Shown) (w : Waiting) (woke : Woke) (t : Turn) → IsSound old →
    of_waits.Waits old.seen old.seat → IsSame old new → IsGoneOn old w woke t new → LeavesWaiting t.next new
left_gone old new w woke t shows first same gone = by t.next refl
  where
    s : Step
    s = step_of_waiting w woke

    by : (n : Next) → t.next ≡ n → LeavesWaiting n new
    by (Ends reply again) e = tt
    by (Waits v) e =
        subst (λ (i : ℕ). of_waits.Waits new.seen i) (sym same.seat)
        (waits_gone old new first.0 w s gone.0 v
        (turn old new first.0 s gone.0 gone.1 shows first.1 (step_waits w.stage w.limits woke))
        (ap (λ (z : Turn). z.next) (sym gone.2) ∙ e))
