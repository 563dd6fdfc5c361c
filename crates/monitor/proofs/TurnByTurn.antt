-- The turns of a call that may wait, as the call that they make.
use Rattle.std.proofs.Common.{◌≡◌, ◌≢◌, inl, inr, ℕ, ◌<◌, Bool, true, false, cond, eqb, List, Option, Some, None, is_some, IsSome, IfSome, IsOk, Result, Ok, Err, refl, sym, ap, ◌∙◌, subst, ℤ}
use Rattle.monitor.specs.Below.{Point, Entry, Mode, X, Word, Fault, Answer, Recorded, Sleep, Step, signalled, free, free_after, waits, opening, Deed, interrupted, parked, Woke, Permit, Deadline, Interrupted, Before, LockId}
use Rattle.history.specs.declared.entry.Word.TheVariants as word
use Rattle.history.specs.declared.fault.Fault.TheVariants as fault
use Rattle.history.specs.declared.step.Step.TheVariants as step
use Rattle.monitor.specs.Prelude.{CanCall, LimitsFor, WasInterrupted, WasNotInterrupted, first_step, tells_interrupt, LetsGo, free_of, given_by, AsksAwait, IsBegun, IsCall, IsGoneOn, at_stage, begins_wait, begun, first_turn, later_turn, limits_at, limits_from, next_behind, next_by, stage_for, step_at, step_by, step_of_waiting, step_within, Shown, IsSound, IsSame, IsStep, IsStepNow, IsUnparked, answer_of, Now, Done, Busy, AfterPark, Cause, ComesOf, IsNotLost, in_line, is_lapse, no_limits, on_condition, stage_asleep, asking, How, Plain, Interruptible, Timed, Ends, Waits, Request, Acquire, AwaitOn, Turn, Waiting, Limits}
use Rattle.monitor.specs.inner.Machine.{WasShown}
use Rattle.monitor.specs.inner.Stepping.{named_in}
use Rattle.monitor.specs.inner.Waits.{IsReply, MayBegin}
use Rattle.monitor.proofs.StillWaiting.{AllStillWait, SoFar, StillWaits, ending_of, stage_behind, unless_lapse}
use Rattle.monitor.specs.Waits as of_waits
use Rattle.monitor.specs.declared.waiting.Stage.{Stage}
use Rattle.monitor.specs.declared.waiting.Stage.TheVariants.{Expires, Parks, Looks, GivenUp}
use Rattle.monitor.proofs.Acquiring.{ends_at_once, ends_in_line, refused, refused_at_once, stands}
use Rattle.monitor.proofs.Freeing.{waits_gives_none}
use Rattle.monitor.proofs.InLine.{failed, named_place, no_sleep, woken_as}
use Rattle.monitor.proofs.Letting.{waits_lets_none}
use Rattle.monitor.proofs.OnCondition as await
use Rattle.monitor.proofs.Turns.{never_fault, still_after, turn, waited}

-- a call begins by a step of an idle seat
first_idle : (how : How) (m : Mode) (n : ℕ) → waits (first_step how m n) ≡ false
first_idle Plain m n = refl
first_idle Interruptible m n = refl
first_idle (Timed ms) m n = by (eqb ms 0)
  where
    by : (b : Bool) → waits (cond b (step.TryFair m n) (step.Acquire m n)) ≡ false
    by true = refl
    by false = refl

pub step_idle : (q : Request) (how : How) (was : Bool) → waits (step_by q how was) ≡ false
step_idle (Acquire m n) how true = refl
step_idle (Acquire m n) how false = first_idle how m n
step_idle (AwaitOn c) how true = refl
step_idle (AwaitOn c) how false = refl

-- and gives nothing back
first_gives_none : (how : How) (m : Mode) (n : ℕ) → given_by (first_step how m n) ≡ 0
first_gives_none Plain m n = refl
first_gives_none Interruptible m n = refl
first_gives_none (Timed ms) m n = by (eqb ms 0)
  where
    by : (b : Bool) → given_by (cond b (step.TryFair m n) (step.Acquire m n)) ≡ 0
    by true = refl
    by false = refl

pub step_gives_none : (q : Request) (how : How) (was : Bool) → given_by (step_by q how was) ≡ 0
step_gives_none (Acquire m n) how true = refl
step_gives_none (Acquire m n) how false = first_gives_none how m n
step_gives_none (AwaitOn c) how true = refl
step_gives_none (AwaitOn c) how false = refl

-- and lets the last hold go only where the call is an await
first_lets_none : (how : How) (m : Mode) (n : ℕ) (h : Mode → ℕ) → LetsGo (first_step how m n) h → ⊥
first_lets_none Plain m n h go = go
first_lets_none Interruptible m n h go = go
first_lets_none (Timed ms) m n h go = by (eqb ms 0) go
  where
    by : (b : Bool) → LetsGo (cond b (step.TryFair m n) (step.Acquire m n)) h → ⊥
    by true go = go
    by false go = go

pub step_lets : (q : Request) (how : How) (was : Bool) (h : Mode → ℕ) → LetsGo (step_by q how was) h → AsksAwait q
step_lets (Acquire m n) how true h go = go
step_lets (Acquire m n) how false h go = first_lets_none how m n h go
step_lets (AwaitOn c) how true h go = tt
step_lets (AwaitOn c) how false h go = tt

pub begins_awake : (old new : Shown) (q : Request) (how : How) (was : Bool) (r : Result Answer Fault) →
    IsStep old (step_by q how was) r new → r ≢ Ok Sleep
begins_awake old new q how was r s is =
    no_sleep old new (step_by q how was) (step_idle q how was)
    (subst (λ (z : Result Answer Fault). IsStep old (step_by q how was) z new) is s)

-- one who waits takes a step of one who waits, and that is no fault
waits_within : (l : Limits) (woke : Woke) → waits (step_within l woke) ≡ true
waits_within l Permit = refl
waits_within l Deadline = by (is_some l.until)
  where
    by : (b : Bool) → waits (cond b step.Expire step.Look) ≡ true
    by true = refl
    by false = refl
waits_within l Interrupted = by l.interruptible
  where
    by : (b : Bool) → waits (cond b step.Interrupt step.Look) ≡ true
    by true = refl
    by false = refl

pub step_waits : (stage : Stage) (l : Limits) (woke : Woke) → waits (step_at stage l woke) ≡ true
step_waits Expires l woke = refl
step_waits Parks l woke = waits_within l woke
step_waits Looks l woke = refl
step_waits GivenUp l woke = refl

pub later_gives_none : (w : Waiting) (woke : Woke) → given_by (step_of_waiting w woke) ≡ 0
later_gives_none w woke = waits_gives_none (step_of_waiting w woke) (step_waits w.stage w.limits woke)

pub later_lets_none : (w : Waiting) (woke : Woke) (h : Mode → ℕ) → LetsGo (step_of_waiting w woke) h → ⊥
later_lets_none w woke h go = waits_lets_none (step_of_waiting w woke) h (step_waits w.stage w.limits woke) go

pub goes_on : (old new : Shown) (w : Waiting) (woke : Woke) (r : Result Answer Fault) → IsSound old →
    of_waits.Waits old.seen old.seat → IsStep old (step_of_waiting w woke) r new → IsOk r
goes_on old new w woke (Ok x) t k s = refl
goes_on old new w woke (Err f) t k s =
    absurd (turn old new k.0 (step_of_waiting w woke) (Err f) s t k.1 (step_waits w.stage w.limits woke))

-- the seat that a turn names is the one that its step named
pub named_first : (q : Request) (how : How) (moment : ℕ) (was : Bool) (r : Result Answer Fault) →
    (first_turn q how moment was r).named ≡ named_in r
named_first q how moment was (Ok (Recorded e name)) = refl
named_first q how moment was (Ok Sleep) = refl
named_first q how moment was (Err f) = refl

named_later : (w : Waiting) (s : Step) (r : Result Answer Fault) → (later_turn w s r).named ≡ named_in r
named_later w s (Ok (Recorded e name)) = refl
named_later w s (Ok Sleep) = refl
named_later w s (Err f) = refl

pub place_first : (lock : LockId) (old new : Shown) (q : Request) (how : How) (moment : ℕ) (was : Bool) (t : Turn)
    (seats : ℕ) → CanCall lock seats old → IsBegun old q how moment was t new → IfSome t.named (λ j. j < seats)
place_first lock old new q how moment was t seats can (r, s, is) =
    subst (λ z. IfSome z (λ j. j < seats))
    (sym (ap (λ (z : Turn). z.named) is ∙ named_first q how moment was r))
    (named_place lock old new (step_by q how was) r seats can s)

pub place_later : (lock : LockId) (old new : Shown) (w : Waiting) (woke : Woke) (t : Turn) (seats : ℕ) →
    CanCall lock seats old → IsGoneOn old w woke t new → IfSome t.named (λ j. j < seats)
place_later lock old new w woke t seats can (r, s, is) =
    subst (λ z. IfSome z (λ j. j < seats))
    (sym (ap (λ (z : Turn). z.named) is ∙ named_later w (step_of_waiting w woke) r))
    (named_place lock old new (step_of_waiting w woke) r seats can s)

-- what a wait begins with
pub limits_for : (did : Deed → Type 0) (seen : Point) (how : How) (moment : ℕ) → WasShown did seen how moment →
    LimitsFor did seen how (limits_from moment how)
limits_for did seen Plain moment shown = record { until = refl; interruptible = refl }
limits_for did seen Interruptible moment shown = record { until = refl; interruptible = refl }
limits_for did seen (Timed ms) moment shown = record { until = (moment, shown, refl); interruptible = refl }

-- which words begin a wait
queued : (m : Mode) (n : ℕ) (w : Word) → begins_wait (Acquire m n) w ≡ true → w ≡ word.Queued
queued m n word.Queued q = refl
queued m n _ q = cc

not_queued : (m : Mode) (n : ℕ) (w : Word) → begins_wait (Acquire m n) w ≡ false → w ≢ word.Queued
not_queued m n w q is = let z = ap (begins_wait (Acquire m n)) is in cc

awaits : (c : ℕ) (w : Word) → begins_wait (AwaitOn c) w ≡ true → w ≡ word.Await
awaits c word.Await q = refl
awaits c _ q = cc

not_await : (c : ℕ) (w : Word) → begins_wait (AwaitOn c) w ≡ false → w ≢ word.Await
not_await c w q is = let z = ap (begins_wait (AwaitOn c)) is in cc

-- the first turn ended the call
module _ (did : Deed → Type 0) (old new : Shown) (how : How) (none : WasNotInterrupted did old.seat how) where
  recorded_ends : (q : Request) (e : Entry) (name : Option ℕ) →
      IsStep old (step_by q how false) (Ok (Recorded e name)) new → IsUnparked did old.lock name new.seen →
      begins_wait q e.word ≡ false → IsCall did old q how (Ok e) new
  recorded_ends (Acquire m n) e name s woken b =
      ends_at_once did old new how m n e name s woken none (not_queued m n e.word b)
  recorded_ends (AwaitOn c) e name s woken b =
      await.refuses did old new c how e name s woken none (not_await c e.word b)

  fault_ends : (q : Request) (f : Fault) → IsStep old (step_by q how false) (Err f) new →
      IsCall did old q how (Err f) new
  fault_ends (Acquire m n) f s =
      record { step = first_step how m n; first = inl (refl, none); stepped = failed old new (first_step how m n) f s }
  fault_ends (AwaitOn c) f s =
      record { step = step.Await c; first = inl (refl, none); stepped = failed old new (step.Await c) f s }

  ends_by : (q : Request) (moment : ℕ) (r : Result Answer Fault) (reply : Result Entry Fault) (again : Bool) →
      IsStep old (step_by q how false) r new → IsUnparked did old.lock (named_in r) new.seen →
      (first_turn q how moment false r).next ≡ Ends reply again → IsCall did old q how reply new
  ends_by q moment (Ok (Recorded e name)) reply again s woken is = by (begins_wait q e.word) refl is
    where
      by : (b : Bool) → begins_wait q e.word ≡ b → next_by b (begun q how moment) e ≡ Ends reply again →
          IsCall did old q how reply new
      by true t u = cc
      by false t u =
          let same : Ok e ≡ reply = cc in
          subst (λ (z : Result Entry Fault). IsCall did old q how z new) same
          (recorded_ends q e name s woken t)
  ends_by q moment (Ok Sleep) reply again s woken is = absurd (begins_awake old new q how false (Ok Sleep) s refl)
  ends_by q moment (Err f) reply again s woken is =
      let same : Err f ≡ reply = cc in
      subst (λ (z : Result Entry Fault). IsCall did old q how z new) same (fault_ends q f s)

  pub begun_ends : (q : Request) (moment : ℕ) (t : Turn) (reply : Result Entry Fault) (again : Bool) →
      IsBegun old q how moment false t new → IsUnparked did old.lock t.named new.seen → t.next ≡ Ends reply again →
      IsCall did old q how reply new
  begun_ends q moment t reply again (r, s, is) woken ends =
      ends_by q moment r reply again s
      (subst (λ (z : Option ℕ). IsUnparked did old.lock z new.seen)
      (ap (λ (z : Turn). z.named) is ∙ named_first q how moment false r) woken)
      (ap (λ (z : Turn). z.next) (sym is) ∙ ends)

-- the first turn began to wait
pub record Begins (did : Deed → Type 0) (old new : Shown) (q : Request) (how : How) : Type 0 where
  pub entry : Entry
  pub name : Option ℕ
  pub step : IsStep old (step_by q how false) (Ok (Recorded entry name)) new
  pub woken : IsUnparked did old.lock name new.seen
  pub begins : begins_wait q entry.word ≡ true

-- the entry by which it began to wait took nothing
begins_free : (q : Request) (w : Word) (n : ℕ) (had : ℤ) → begins_wait q w ≡ true → free_after w n had ≡ had
begins_free (Acquire m k) word.Queued n had b = refl
begins_free (Acquire m k) _ n had b = cc
begins_free (AwaitOn c) word.Await n had b = refl
begins_free (AwaitOn c) _ n had b = cc

pub begun_free : (did : Deed → Type 0) (old new : Shown) (q : Request) (how : How) → IsSame old new →
    Begins did old new q how → free_of new ≡ free_of old
begun_free did old new q how same b =
    ap (λ (l : LockId). free (opening l.header) new.mine) same.lock
    ∙ (ap (λ (l : List Entry). free (opening old.lock.header) l) b.step.mine
    ∙ begins_free q b.entry.word b.entry.n (free_of old) b.begins)

-- nor has one who still waits
still_free : (did : Deed → Type 0) (first : Shown) (was : Cause) (s : Stage) (l : Limits) (kept : Type 0)
    (now : Shown) (stage : Stage) → StillWaits did first was s l kept now stage → free_of now ≡ free_of first
still_free did first was s l kept now stage still =
    ap (λ (k : LockId). free (opening k.header) now.mine) still.same.lock ∙ by still.so_far
  where
    by : SoFar did first was s l kept now still.cause stage → free (opening first.lock.header) now.mine ≡ free_of first
    by (inl x) = ap (λ (z : List Entry). free (opening first.lock.header) z) x.1
    by (inr x) = ap (λ (z : List Entry). free (opening first.lock.header) z) x.5

pub all_still_free : (did : Deed → Type 0) (first : Shown) (s : Stage) (l : Limits) (kept : Type 0) (now : Shown)
    (stage : Stage) → of_waits.Waits first.seen first.seat → AllStillWait did first s l kept now stage →
    free_of now ≡ free_of first
all_still_free did first s l kept now stage began still =
    still_free did first began.0 s l kept now stage (still began.0 began.1)

waits_by : (old new : Shown) (q : Request) (how : How) (moment : ℕ) (was : Bool)
    (r : Result Answer Fault) (w : Waiting) → IsStep old (step_by q how was) r new →
    (first_turn q how moment was r).next ≡ Waits w →
    (e : Entry) × (name : Option ℕ) × (r ≡ Ok (Recorded e name)) × (begins_wait q e.word ≡ true)
    × (w ≡ begun q how moment)
waits_by old new q how moment was (Ok (Recorded e name)) w s is = by (begins_wait q e.word) refl is
  where
    by : (b : Bool) → begins_wait q e.word ≡ b → next_by b (begun q how moment) e ≡ Waits w →
        (f : Entry) × (g : Option ℕ) × (◌≡◌ {A = Result Answer Fault} (Ok (Recorded e name)) (Ok (Recorded f g)))
        × (begins_wait q f.word ≡ true) × (w ≡ begun q how moment)
    by true t u = (e, name, refl, t, cc)
    by false t u = cc
waits_by old new q how moment was (Ok Sleep) w s is = cc
waits_by old new q how moment was (Err f) w s is = cc

pub begun_waits : (did : Deed → Type 0) (old new : Shown) (q : Request) (how : How) (moment : ℕ) (t : Turn)
    (w : Waiting) → IsBegun old q how moment false t new → IsUnparked did old.lock t.named new.seen → t.next ≡ Waits w →
    Begins did old new q how × (w ≡ begun q how moment)
begun_waits did old new q how moment t w (r, s, is) woken next =
    let x = waits_by old new q how moment false r w s (ap (λ (z : Turn). z.next) (sym is) ∙ next) in (
      record {
        entry = x.0;
        name = x.1;
        step = subst (λ (z : Result Answer Fault). IsStep old (step_by q how false) z new) x.2 s;
        woken = subst (λ (z : Option ℕ). IsUnparked did old.lock z new.seen)
            (ap (λ (z : Turn). z.named) is ∙ (named_first q how moment false r ∙ ap named_in x.2)) woken;
        begins = x.3;
      },
      x.4,
    )

pub waits_now : (did : Deed → Type 0) (old new : Shown) (q : Request) (how : How) →
    WasNotInterrupted did old.seat how → Begins did old new q how → IsSame old new →
    of_waits.Waits new.seen new.seat
waits_now did old new (Acquire m n) how none b same = (
  in_line (asking new.seat m n),
  stands did old new how m n b.entry b.name b.step b.woken none (queued m n b.entry.word b.begins) same,
)
waits_now did old new (AwaitOn c) how none b same = (
  on_condition (signalled b.entry.at b.entry.n),
  await.sleeps did old new c how b.entry b.name b.step b.woken none (awaits c b.entry.word b.begins) same,
)

pub may_wait : (did : Deed → Type 0) (seen : Point) (q : Request) (how : How) (moment : ℕ) →
    WasShown did seen how moment →
    MayBegin (limits_from moment how) (stage_for q how)
may_wait did seen (Acquire m n) how moment shown = tt
may_wait did seen (AwaitOn c) how moment shown =
    await.may_begin did seen how (limits_from moment how) (limits_for did seen how moment shown)

-- and the wait ended the call
pub waited_ends : (did : Deed → Type 0) (old mid new : Shown) (q : Request) (how : How) (moment : ℕ)
    (reply : Result Entry Fault) → WasNotInterrupted did old.seat how → Begins did old mid q how →
    IsSame old mid → IsSound mid → WasShown did old.seen how moment → Before mid.seen new.seen →
    IsReply did mid (stage_for q how) (limits_from moment how) reply new → IsCall did old q how reply new
waited_ends did old mid new (Acquire m n) how moment (Ok e) none b same shows shown later waited =
    ends_in_line did old mid how m n b.entry b.name b.step b.woken none (queued m n b.entry.word b.begins) same
    new (limits_from moment how) e (limits_for did old.seen how moment shown) later waited
waited_ends did old mid new (AwaitOn c) how moment (Ok e) none b same shows shown later waited =
    await.ends_await did old mid c how b.entry b.name b.step b.woken none (awaits c b.entry.word b.begins) same
    shows new (limits_from moment how) e (limits_for did old.seen how moment shown) later waited
waited_ends did old mid new q how moment (Err f) none b same shows shown later waited = absurd waited

-- an interrupt was pending
refused_word : (old new : Shown) (q : Request) (how : How) (e : Entry) (name : Option ℕ) →
    IsStep old (step_by q how true) (Ok (Recorded e name)) new → e.word ≡ word.Refused fault.Interrupted
refused_word old new (Acquire m n) how e name s = refused_at_once old new m n e name s
refused_word old new (AwaitOn c) how e name s = refused_at_once old new X 1 e name s

refused_waits : (q : Request) (w : Word) → w ≡ word.Refused fault.Interrupted → begins_wait q w ≡ false
refused_waits (Acquire m n) w is = ap (begins_wait (Acquire m n)) is
refused_waits (AwaitOn c) w is = ap (begins_wait (AwaitOn c)) is

module _ (did : Deed → Type 0) (old new : Shown) (how : How) (was : WasInterrupted did old.seat how) where
  recorded_refused : (q : Request) (e : Entry) (name : Option ℕ) →
      IsStep old (step_by q how true) (Ok (Recorded e name)) new → IsUnparked did old.lock name new.seen →
      IsCall did old q how (Ok e) new
  recorded_refused (Acquire m n) e name s woken = refused did old new how m n (Ok e) was (name, s, woken) tt
  recorded_refused (AwaitOn c) e name s woken = await.refused did old new c how (Ok e) was (name, s, woken) tt

  fault_refused : (q : Request) (f : Fault) → IsStep old (step_by q how true) (Err f) new →
      did (interrupted old.seat) → IsCall did old q how (Err f) new
  fault_refused (Acquire m n) f s again = refused did old new how m n (Err f) was s again
  fault_refused (AwaitOn c) f s again = await.refused did old new c how (Err f) was s again

  refused_by : (q : Request) (moment : ℕ) (r : Result Answer Fault) (reply : Result Entry Fault) (again : Bool) →
      IsStep old (step_by q how true) r new → IsUnparked did old.lock (named_in r) new.seen →
      (tells_interrupt reply ≡ false → did (interrupted old.seat)) →
      (first_turn q how moment true r).next ≡ Ends reply again → IsCall did old q how reply new
  refused_by q moment (Ok (Recorded e name)) reply again s woken settled is = by (begins_wait q e.word) is
    where
      by : (b : Bool) → next_by b (begun q how moment) e ≡ Ends reply again → IsCall did old q how reply new
      by true u = cc
      by false u =
          let same : Ok e ≡ reply = cc in
          subst (λ (z : Result Entry Fault). IsCall did old q how z new) same
          (recorded_refused q e name s woken)
  refused_by q moment (Ok Sleep) reply again s woken settled is =
      absurd (begins_awake old new q how true (Ok Sleep) s refl)
  refused_by q moment (Err f) reply again s woken settled is =
      let same : Err f ≡ reply = cc in
      subst (λ (z : Result Entry Fault). IsCall did old q how z new) same
      (fault_refused q f s (settled (ap tells_interrupt (sym same))))

  pub begun_refused : (q : Request) (moment : ℕ) (t : Turn) (reply : Result Entry Fault) (again : Bool) →
      IsBegun old q how moment true t new → IsUnparked did old.lock t.named new.seen →
      (tells_interrupt reply ≡ false → did (interrupted old.seat)) → t.next ≡ Ends reply again →
      IsCall did old q how reply new
  begun_refused q moment t reply again (r, s, is) woken settled ends =
      refused_by q moment r reply again s
      (subst (λ (z : Option ℕ). IsUnparked did old.lock z new.seen)
      (ap (λ (z : Turn). z.named) is ∙ named_first q how moment true r) woken) settled
      (ap (λ (z : Turn). z.next) (sym is) ∙ ends)

pub never_waits : (old new : Shown) (q : Request) (how : How) (moment : ℕ) (t : Turn) (w : Waiting) →
    IsBegun old q how moment true t new → t.next ≡ Waits w → ⊥
never_waits old new q how moment t w (r, s, is) next =
    let x = waits_by old new q how moment true r w s (ap (λ (z : Turn). z.next) (sym is) ∙ next) in
    let none = refused_waits q x.0.word (refused_word old new q how x.0 x.1
    (subst (λ (z : Result Answer Fault). IsStep old (step_by q how true) z new) x.2 s)) in
    let some = x.3 in cc

pub begun_after : (old new : Shown) (q : Request) (how : How) (moment : ℕ) (was : Bool) (t : Turn) →
    IsBegun old q how moment was t new → Before old.seen new.seen
begun_after old new q how moment was t (r, s, is) = s.after

-- the later turns
gone_ends : (w : Waiting) (s : Step) (r : Result Answer Fault) (reply : Result Entry Fault) (again : Bool) →
    IsOk r → (later_turn w s r).next ≡ Ends reply again →
    (e : Entry) × (ending_of r ≡ Some e) × (reply ≡ Ok e)
gone_ends w s (Ok (Recorded e name)) reply again ok is = by (is_lapse e.word) refl is
  where
    by : (b : Bool) → is_lapse e.word ≡ b → next_behind b w s e ≡ Ends reply again →
        (f : Entry) × (ending_of (Ok (Recorded e name)) ≡ Some f) × (reply ≡ Ok f)
    by true t u = cc
    by false t u = (e, ap (λ (b : Bool). unless_lapse b e) t, cc)
gone_ends w s (Ok Sleep) reply again ok is = cc
gone_ends w s (Err f) reply again ok is = cc

gone_waits : (w : Waiting) (s : Step) (r : Result Answer Fault) (next : Waiting) → IsOk r →
    (later_turn w s r).next ≡ Waits next →
    (ending_of r ≡ None) × (next.stage ≡ stage_behind w.stage s r) × (next.limits ≡ w.limits)
gone_waits w s (Ok (Recorded e name)) next ok is = by (is_lapse e.word) refl is
  where
    by : (b : Bool) → is_lapse e.word ≡ b → next_behind b w s e ≡ Waits next →
        (ending_of (Ok (Recorded e name)) ≡ None) × (next.stage ≡ Looks) × (next.limits ≡ w.limits)
    by true t u =
        let same : at_stage w s Looks ≡ next = cc in (
          ap (λ (b : Bool). unless_lapse b e) t,
          ap (λ (z : Waiting). z.stage) (sym same),
          ap (λ (z : Waiting). z.limits) (sym same),
        )
    by false t u = cc
gone_waits w s (Ok Sleep) next ok is =
    let same : at_stage w s (stage_asleep w.stage s) ≡ next = cc in
    (refl, ap (λ (z : Waiting). z.stage) (sym same), ap (λ (z : Waiting). z.limits) (sym same))
gone_waits w s (Err f) next ok is = cc

-- a turn of one who still waits
module _ (did : Deed → Type 0) (first now new : Shown) (s : Stage) (l : Limits) (kept : Type 0) (w : Waiting)
    (woke : Woke) (t : Turn) (began : of_waits.Waits first.seen first.seat) (may : MayBegin l s)
    (still : AllStillWait did first s l kept now w.stage) (limits : w.limits ≡ l)
    (comes : ComesOf did first.seat w.limits w.stage (step_of_waiting w woke))
    (noted : step_of_waiting w woke ≡ step.Interrupt → kept) (same : IsSame now new)
    (gone : IsGoneOn now w woke t new) (woken : IsUnparked did new.lock t.named new.seen) where
  its : ComesOf did first.seat l w.stage (step_of_waiting w woke)
  its = subst (λ (z : Limits). ComesOf did first.seat z w.stage (step_of_waiting w woke)) limits comes

  named : IsUnparked did now.lock (named_in gone.0) new.seen
  named =
      subst (λ (z : Option ℕ). IsUnparked did now.lock z new.seen)
      (ap (λ (z : Turn). z.named) gone.2 ∙ named_later w (step_of_waiting w woke) gone.0)
      (woken_as did now new t.named new.seen same woken)

  ok : IsOk gone.0
  ok =
      never_fault did first now new began.0 s l kept w.stage (step_of_waiting w woke) may
      (still began.0 began.1) its noted gone.0 gone.1

  pub replies : (reply : Result Entry Fault) (again : Bool) → t.next ≡ Ends reply again →
      (kept → IsNotLost did first.seat reply) → IsReply did first s l reply new
  replies reply again ends settled =
      let x = gone_ends w (step_of_waiting w woke) gone.0 reply again ok
      (ap (λ (z : Turn). z.next) (sym gone.2) ∙ ends) in
      subst (λ (z : Result Entry Fault). IsReply did first s l z new) (sym x.2)
      (λ k stays. waited did first now new k s l kept w.stage (step_of_waiting w woke) may (still k stays) its noted
      gone.0 x.0 gone.1 named x.1
      (subst (λ (z : Result Entry Fault). kept → IsNotLost did first.seat z) x.2 settled))

  pub waits_on : (next : Waiting) → IsSound new → t.next ≡ Waits next →
      AllStillWait did first s l kept new next.stage × (next.limits ≡ l)
  waits_on next shows is =
      let x = gone_waits w (step_of_waiting w woke) gone.0 next ok
      (ap (λ (z : Turn). z.next) (sym gone.2) ∙ is) in (
        subst (λ (z : Stage). AllStillWait did first s l kept new z) (sym x.1)
            (λ k stays. still_after did first now new k s l kept w.stage (step_of_waiting w woke) may
            (still k stays) its noted gone.0 same gone.1 named shows x.0),
        x.2 ∙ limits,
      )

-- what the step comes of
abbrev pub WasParked : (Deed → Type 0) → ℕ → Limits → Woke → Type 0
WasParked did i l woke =
    did (parked i l.until l.interruptible woke) × (woke ≡ Deadline → IsSome l.until)
    × (woke ≡ Interrupted → l.interruptible ≡ true)

parked_within : (did : Deed → Type 0) (i : ℕ) (l : Limits) (woke : Woke) → WasParked did i l woke →
    AfterPark did i l (step_within l woke)
parked_within did i l Permit p = p.0
parked_within did i l Deadline p =
    subst (λ (b : Bool). AfterPark did i l (cond b step.Expire step.Look)) (sym (p.1 refl)) (p.0, p.1 refl)
parked_within did i l Interrupted p =
    subst (λ (b : Bool). AfterPark did i l (cond b step.Interrupt step.Look)) (sym (p.2 refl)) (p.0, p.2 refl)

parked_none : (did : Deed → Type 0) (i : ℕ) (woke : Woke) → WasParked did i no_limits woke →
    AfterPark did i no_limits step.Look
parked_none did i Permit p = p.0
parked_none did i Deadline p = let z = p.1 refl in cc
parked_none did i Interrupted p = let z = p.2 refl in cc

pub comes_at : (did : Deed → Type 0) (i : ℕ) (l : Limits) (stage : Stage) (woke : Woke) →
    ((k : Limits) → limits_at stage l ≡ Some k → WasParked did i k woke) →
    ComesOf did i l stage (step_at stage l woke)
comes_at did i l Expires woke p = refl
comes_at did i l Parks woke p = parked_within did i l woke (p l refl)
comes_at did i l Looks woke p = refl
comes_at did i l GivenUp woke p = parked_none did i woke (p no_limits refl)

-- a step that an interrupt led to comes of a park
pub is_noted : (l : Limits) (stage : Stage) (woke : Woke) (kept : Type 0) →
    (IsSome (limits_at stage l) → woke ≡ Interrupted → kept) → step_at stage l woke ≡ step.Interrupt → kept
is_noted l Expires woke kept noted q = cc
is_noted l Parks Permit kept noted q = cc
is_noted l Parks Deadline kept noted q = absurd (by (is_some l.until) q)
  where
    by : (b : Bool) → cond b step.Expire step.Look ≡ step.Interrupt → ⊥
    by true u = cc
    by false u = cc
is_noted l Parks Interrupted kept noted q = noted refl refl
is_noted l Looks woke kept noted q = cc
is_noted l GivenUp woke kept noted q = cc

-- a step that waited for nobody
-- a step under another name
pub step_as : (old new : Shown) (made step : Step) (r : Result Answer Fault) → made ≡ step →
    IsStep old made r new → IsStep old step r new
step_as old new made step r same s = subst (λ (z : Step). IsStep old z r new) same s

pub stepped_now : (old new : Shown) (made step : Step) (reply : Result Now Fault) (r : Result Answer Fault) →
    made ≡ step → IsStepNow old made reply new → answer_of reply ≡ Some r → IsStep old step r new
stepped_now old new made step (Ok (Done a)) r same s q =
    let is : Ok a ≡ r = cc in
    step_as old new made step r same (subst (λ (z : Result Answer Fault). IsStep old made z new) is s)
stepped_now old new made step (Ok Busy) r same s q = cc
stepped_now old new made step (Err f) r same s q =
    let is : Err f ≡ r = cc in
    step_as old new made step r same (subst (λ (z : Result Answer Fault). IsStep old made z new) is s)

pub busy_now : (old new : Shown) (step : Step) (reply : Result Now Fault) → IsStepNow old step reply new →
    answer_of reply ≡ None → new ≡ old
busy_now old new step (Ok (Done a)) s q = cc
busy_now old new step (Ok Busy) s q = s
busy_now old new step (Err f) s q = cc
