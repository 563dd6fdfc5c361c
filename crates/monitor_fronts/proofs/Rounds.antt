-- The loop that makes room, round by round.
use Rattle.std.proofs.Common.{◌≡◌, inl, inr, ℕ, suc, ◌+◌, ◌≤◌, true, false, [], length, Option, Some, IfSome, Result, Ok, Err, refl, sym, ap, ◌∙◌, subst, arith, length-append}
use Rattle.std.proofs.lemmas.List.{nil_from_length}
use Rattle.history.specs.Entries.{ended_calls}
use Rattle.history.specs.Base.{Base}
use Rattle.history.specs.declared.fault.Fault.TheVariants as fault
use Rattle.monitor.specs.Calling.{Called, CalledQuietly}
use Rattle.monitor.specs.Load.{was_refused}
use Rattle.monitor.proofs.Sections.{not_called, quiet_since, quietly}
use Rattle.frame.specs.Core.{CoreView}
use Rattle.history.specs.Counts.{held}
use Rattle.history.specs.Start.{opening}
use Rattle.monitor_fronts.specs.Below.{Entry, Fault, HistoryFull, Point, Step, Deed, Before, How, IsCall, IsEntered, IsTrim, Request, Shown, IsSound, holds_of}
use Rattle.monitor.specs.declared.machine.Request.TheVariants as request
use Rattle.monitor_fronts.specs.Room.{GoesOn, InRoom, MadeRoom, MonitorCall, TurnsBack, at_point}
use Rattle.monitor_fronts.specs.inner.Room.{IsTrimmedFrom, is_full, is_to_trim}
use Rattle.monitor_fronts.specs.declared.room.WhenFull.{WhenFull}
use Rattle.monitor_fronts.specs.declared.room.WhenFull.TheVariants.{Refuse, Trim}

-- a pass that has done nothing more is as it was, but for what it has seen
pub only_saw : (old new : Shown) → IsSound old → CalledQuietly old new → new.mine ≡ old.mine → new ≡ at_point old new.seen
only_saw old new was c mine =
    let share : new.share ≡ old.share = c.shows.counted ∙ (ap ended_calls mine ∙ sym was.counted) in
    λ d. record { lock = c.same.lock d; seat = c.same.seat d; seen = new.seen; mine = mine d; share = share d }

-- what was recorded stays
more_folded : (p q : Point) → Before p q → p.base.entries ≤ q.base.entries
unfolding Before
more_folded p q (inl grown) = let is = ap (λ (b : Base). b.entries) grown.0 in omega (arith, is)
more_folded p q (inr folds) = let is = ap (λ (b : Base). b.entries) folds.base in omega (arith, is)

more_recorded : (p q : Point) → Before p q →
    p.base.entries + length p.entries ≤ q.base.entries + length q.entries
unfolding Before
more_recorded p q (inl grown) =
    let is = ap (λ (b : Base). b.entries) grown.0 in
    let list = ap length grown.1.1 in
    omega (arith, is, list, length-append grown.1.0 p.entries)
more_recorded p q (inr folds) =
    let is = ap (λ (b : Base). b.entries) folds.base in
    omega (arith, is, length-append folds.more p.entries)

-- between two points with as many folded entries, of which the second has no others, none has others
was_empty : (p full q : Point) → Before p full → Before full q → p.base.entries ≡ q.base.entries → q.entries ≡ [] →
    full.entries ≡ []
was_empty p full q a b same none =
    let n = more_folded p full a in
    let m = more_recorded full q b in
    let z = ap length none in
    nil_from_length full.entries (omega (arith, n, m, z, same))

-- what the loop has done so far: nothing but to look, and to trim
pub record Tried (call : MonitorCall) (first now : Shown) : Type 0 where
  pub times : ℕ
  pub made : MadeRoom times call first now.seen

pub record Trying (w : WhenFull) (call : MonitorCall) (first now : Shown) : Type 0 where
  pub was : IsSound first
  pub called : CalledQuietly first now
  pub mine : now.mine ≡ first.mine
  pub tried : (w ≡ Refuse → now ≡ first) × (w ≡ Trim → Tried call first now)

pub begin : (w : WhenFull) (call : MonitorCall) (first : Shown) → IsSound first → Trying w call first first
begin w call first sound =
    record {
      was = sound;
      called = not_called first sound;
      mine = refl;
      tried = (λ is. refl, λ is. record { times = 0; made = refl });
    }

pub saw : (w : WhenFull) (call : MonitorCall) (first now : Shown) → Trying w call first now →
    now ≡ at_point first now.seen
saw w call first now t = only_saw first now t.was t.called t.mine

-- the call from now on is one from what the pass had seen
from_first : (w : WhenFull) (call : MonitorCall) (first now : Shown) (r : Result Entry Fault) (new : Shown) →
    Trying w call first now → call now r new → call (at_point first now.seen) r new
from_first w call first now r new t x = subst (λ (o : Shown). call o r new) (saw w call first now t) x

-- it found the history full, and trimmed
turns_back : (w : WhenFull) (call : MonitorCall) (first now full new : Shown) (trimmed : Result ℕ Fault) →
    Trying w call first now → call now (Err HistoryFull) full → CalledQuietly now full → full.mine ≡ now.mine →
    IsTrim full trimmed new → TurnsBack call (at_point first now.seen) trimmed new
turns_back w call first now full new trimmed t refused called mine trim =
    let is : full ≡ at_point first full.seen =
    only_saw first full t.was (quiet_since first now full t.called called) (mine ∙ t.mine) in
    record {
      full = full.seen;
      begins = called.begins;
      refused = subst (λ (z : Shown). call (at_point first now.seen) (Err HistoryFull) z) is
          (from_first w call first now (Err HistoryFull) full t refused);
      trim = subst (λ (z : Shown). IsTrim z trimmed new) is trim;
    }

full_is : (r : Result Entry Fault) → is_full r ≡ true → r ≡ Err HistoryFull
full_is (Ok e) q = cc
full_is (Err fault.HistoryFull) q = refl
full_is (Err f) q = cc

pub to_trim_is : (w : WhenFull) (r : Result Entry Fault) → is_to_trim w r ≡ true → (w ≡ Trim) × (r ≡ Err HistoryFull)
to_trim_is Refuse r q = cc
to_trim_is Trim r q = (refl, full_is r q)

-- the reply is the one of the call: it found room, or is to refuse
pub found_room : (w : WhenFull) (call : MonitorCall) (first now : Shown) (r : Result Entry Fault) (new : Shown) →
    Trying w call first now → call now r new → is_to_trim w r ≡ false → InRoom w call first r new
found_room Refuse call first now r new t x q = subst (λ (o : Shown). call o r new) (t.tried.0 refl) x
found_room Trim call first now r new t x q =
    let y = t.tried.1 refl in
    record {
      times = y.times;
      from = now.seen;
      made = y.made;
      ends = inl (from_first Trim call first now r new t x, λ is. never (ap is_full (sym is) ∙ q));
    }
  where
    never : is_full (Err HistoryFull) ≡ false → ⊥
    never z = cc

-- One round: the call found no room.
module _ (w : WhenFull) (call : MonitorCall) (first now full new : Shown) (r : Result Entry Fault)
    (t : Trying w call first now) (q : is_to_trim w r ≡ true) (x : call now r full) (c : Called now full)
    (mine : full.mine ≡ now.mine) (d : Called full new) where
  refused : call now (Err HistoryFull) full
  refused = subst (λ (z : Result Entry Fault). call now z full) (to_trim_is w r q).1 x

  -- it trimmed, and is made anew
  pub again : (count : ℕ) → IsTrim full (Ok count) new → Trying w call first new
  again count trim =
      let full_since = quiet_since first now full t.called (quietly now full c) in
      let since = quiet_since first full new full_since (quietly full new d) in
      let own = trim.mine ∙ (mine ∙ t.mine) in
      let is = only_saw first new t.was since own in
      let back = turns_back w call first now full new (Ok count) t refused (quietly now full c) mine trim in
      let y = t.tried.1 (to_trim_is w r q).0 in
      record {
        was = t.was;
        called = since;
        mine = own;
        tried = (
          λ z. absurd (never (sym (to_trim_is w r q).0 ∙ z)),
          λ z. record {
            times = suc y.times;
            made = (
              now.seen,
              y.made,
              (count, subst (λ (n : Shown). TurnsBack call (at_point first now.seen) (Ok count) n) is back),
            );
          },
        );
      }
    where
      never : Trim ≡ Refuse → ⊥
      never z = cc

  -- it gives up
  pub gives_up : (before : Option ℕ) (fault : Fault) → IfSome before (λ n. n ≡ now.seen.base.entries) →
      IsTrimmedFrom before full (Err fault) new → InRoom w call first (Err fault) new
  unfolding turns_back
  gives_up before f at trimmed =
      subst (λ (z : WhenFull). InRoom z call first (Err f) new) (sym (to_trim_is w r q).0) (by trimmed)
    where
      y : Tried call first now
      y = t.tried.1 (to_trim_is w r q).0

      counted : (o : Option ℕ) (n : ℕ) → IfSome o (λ n. n ≡ now.seen.base.entries) → o ≡ Some n →
          now.seen.base.entries ≡ n
      counted o n some is =
          sym (subst (λ (z : Option ℕ). IfSome z (λ n. n ≡ now.seen.base.entries)) is some)

      by : IsTrimmedFrom before full (Err f) new → GoesOn call first (Err f) new
      by (inl z) =
          let trim = z.1 in
          let back = turns_back w call first now full new (Ok z.0) t refused (quietly now full c) mine trim in
          let none = ap (λ (v : CoreView). v.entries) trim.trimmed.2 in
          record {
            times = y.times;
            from = now.seen;
            made = y.made;
            ends = inr record {
              trimmed = Ok z.0;
              tried = back;
              fault = f;
              is = refl;
              why = (
                was_empty now.seen full.seen new.seen c.begins d.begins
                    (counted before new.seen.base.entries at z.2) none,
                z.3,
              );
            };
          }
      by (inr trim) =
          record {
            times = y.times;
            from = now.seen;
            made = y.made;
            ends = inr record {
              trimmed = Err f;
              tried = turns_back w call first now full new (Err f) t refused (quietly now full c) mine trim;
              fault = f;
              is = refl;
              why = refl;
            };
          }

-- a call that was refused recorded nothing
pub call_recorded_none : (did : Deed → Type 0) (old : Shown) (q : Request) (how : How) (r : Result Entry Fault)
    (w : WhenFull) (new : Shown) → is_to_trim w r ≡ true → IsCall did old q how r new → new.mine ≡ old.mine
call_recorded_none did old q how r w new full x =
    by q (subst (λ (z : Result Entry Fault). IsCall did old q how z new) (to_trim_is w r full).1 x)
  where
    by : (q : Request) → IsCall did old q how (Err HistoryFull) new → new.mine ≡ old.mine
    by (request.Acquire m n) y = y.stepped.mine
    by (request.AwaitOn c) y = y.stepped.mine

pub step_recorded_none : (did : Deed → Type 0) (old : Shown) (step : Step) (r : Result Entry Fault) (w : WhenFull)
    (new : Shown) → is_to_trim w r ≡ true → IsEntered did old step r new → new.mine ≡ old.mine
step_recorded_none did old step r w new full x =
    let y : IsEntered did old step (Err HistoryFull) new =
    subst (λ (z : Result Entry Fault). IsEntered did old step z new) (to_trim_is w r full).1 x in
    y.mine

-- such a call leaves its load
pub refused_full : (w : WhenFull) (r : Result Entry Fault) → is_to_trim w r ≡ true → was_refused r ≡ true
refused_full w r q = ap was_refused (to_trim_is w r q).1

-- a trim leaves the holds of the pass
pub trim_holds : (before : Option ℕ) (old : Shown) (f : Fault) (new : Shown) → Called old new →
    IsTrimmedFrom before old (Err f) new → holds_of new ≡ holds_of old
trim_holds before old f new c trimmed = λ d. λ m.
    held (opening (c.same.lock d).header) (mine trimmed d) (c.same.seat d) m
  where
    mine : IsTrimmedFrom before old (Err f) new → new.mine ≡ old.mine
    mine (inl x) = x.1.mine
    mine (inr x) = x.mine
