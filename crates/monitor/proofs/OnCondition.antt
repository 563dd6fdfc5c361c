-- The first step of an await, and how its parts fit together.
use Rattle.std.proofs.Common.{◌≡◌, ◌≢◌, ◌⊎◌, inl, inr, ℕ, eqb, nat_lt, Bool, true, false, not, cond, List, ◌∷◌, Option, Some, IsSome, IfErr, Result, Ok, Err, refl, sym, ap, ◌∙◌, subst}
use Rattle.monitor.specs.Below.{Point, is_seat, Counts, counts, owner, Base, based, entry_for, awaits, plain, End, Entry, Mode, X, S, Fault, Recorded, Await, EntryInterrupt, header_of, Before, LockId, SleepsAs, signalled, lapsed, back_from, lapse_from, Deed, interrupted}
use Rattle.history.specs.declared.entry.End.TheVariants as end
use Rattle.history.specs.declared.entry.Word.TheVariants as word
use Rattle.history.specs.declared.fault.Fault.TheVariants as fault
use Rattle.monitor.specs.Prelude.{start_at, view_of, holds_of, Shown, IsSound, IsSame, IsStep, IsEntered, IsUnparked, How, Plain, Interruptible, Timed, Limits, IsUntil, LimitsFor, WasInterrupted, WasNotInterrupted, IsAwait, MayLapseFor, LapsesAndReturns, ReturnsSignalled, first_stage, stage_by, ComesOf, EndComesOf, IsMade, IsNotLost, WaitsAs, on_condition}
use Rattle.monitor.specs.inner.Waits.{IsWait, IsWaited, MayBegin, MayLapse, BackFromLapse}
use Rattle.history.proofs.Awaiting.{falls_asleep}
use Rattle.monitor.proofs.Acquiring.{idle_made, at_once, made_later, only_timed, refused_at_once}
use Rattle.monitor.proofs.InLine.{failed, records}
use Rattle.monitor.proofs.Loads.{own_holds}
use Rattle.monitor.proofs.Turns.{there_later}

-- what an await records first: it sleeps, or is refused
record AwaitsFirst (i : ℕ) (e : Entry) : Type 0 where
  seat : e.seat ≡ i
  word : (e.word ≡ word.Await) ⊎ ((e.word ≡ word.Refused fault.NotOwner) ⊎
      (e.word ≡ word.Refused fault.HoldsRead))

await_words : (k : Counts) (i c : ℕ) → AwaitsFirst i (awaits k i c)
await_words k i c = by (not (is_seat (owner k) i)) (nat_lt 0 (k.held i S))
  where
    by : (b d : Bool) →
        AwaitsFirst i
        (cond b (plain i (word.Refused fault.NotOwner) X 1)
        (cond d (plain i (word.Refused fault.HoldsRead) X 1)
        (record { seat = i; word = word.Await; mode = X; n = k.held i X; at = c; end = end.None })))
    by true d = record { seat = refl; word = inr (inl refl) }
    by false true = record { seat = refl; word = inr (inr refl) }
    by false false = record { seat = refl; word = inl refl }

-- an await that sleeps gives up all holds
await_gives : (k : Counts) (i c : ℕ) (e : Entry) → e ≡ awaits k i c → e.word ≡ word.Await → e.n ≡ k.held i X
await_gives k i c e q w = by (not (is_seat (owner k) i)) (nat_lt 0 (k.held i S)) q
  where
    by : (b d : Bool) →
        e ≡ cond b (plain i (word.Refused fault.NotOwner) X 1)
        (cond d (plain i (word.Refused fault.HoldsRead) X 1)
        (record { seat = i; word = word.Await; mode = X; n = k.held i X; at = c; end = end.None })) →
        e.n ≡ k.held i X
    by true d u = let v = sym (ap (λ (z : Entry). z.word) u) ∙ w in cc
    by false true u = let v = sym (ap (λ (z : Entry). z.word) u) ∙ w in cc
    by false false u = ap (λ (z : Entry). z.n) u

deadline : (did : Deed → Type 0) (seen : Point) (ms : ℕ) (until : Option ℕ) → IsUntil did seen (Timed ms) until →
    IsSome until
deadline did seen ms until q = subst IsSome (sym q.2) refl

pub may_begin : (did : Deed → Type 0) (seen : Point) (how : How) (l : Limits) → LimitsFor did seen how l →
    MayBegin l (first_stage how)
may_begin did seen Plain l for = tt
may_begin did seen Interruptible l for = tt
may_begin did seen (Timed ms) l for = by (eqb ms 0)
  where
    by : (b : Bool) → MayBegin l (stage_by b)
    by true = deadline did seen ms l.until for.until
    by false = tt

may_for : (did : Deed → Type 0) (seen : Point) (how : How) (l : Limits) (e : End) → LimitsFor did seen how l → MayLapse l e →
    MayLapseFor how e
may_for did seen how l end.Timeout for m = only_timed did seen how l.until for.until m
may_for did seen how l end.Interrupt for m = sym for.interruptible ∙ m
may_for did seen how l _ for m = absurd m

-- the first step of an await that was recorded
module _ (did : Deed → Type 0) (old mid : Shown) (c : ℕ) (how : How) (e : Entry) (name : Option ℕ)
    (s : IsStep old (Await c) (Ok (Recorded e name)) mid) (woken : IsUnparked did old.lock name mid.seen)
    (none : WasNotInterrupted did old.seat how) where
  rec : entry_for (start_at s.found) s.found.entries old.seat (Await c) ≡ Ok (Some e)
  rec = (records (view_of s.found s.beside) (view_of mid.seen s.beside_left) old.seat (Await c) e name
      s.answered).made

  first : AwaitsFirst old.seat e
  first =
      let x = idle_made (start_at s.found) s.found.entries old.seat (Await c) e refl rec in
      subst (AwaitsFirst old.seat) (sym x.is)
      (await_words (counts (start_at s.found) s.found.entries) old.seat c)

  pub refuses : e.word ≢ word.Await → IsAwait did old c how (Ok e) mid
  refuses w = by first.word
    where
      by : (e.word ≡ word.Await) ⊎ ((e.word ≡ word.Refused fault.NotOwner) ⊎
          (e.word ≡ word.Refused fault.HoldsRead)) →
          IsAwait did old c how (Ok e) mid
      by (inl x) = absurd (w x)
      by (inr x) = inl (Await c, inl (refl, x, none), at_once did old mid (Await c) e (name, s, woken))

  pub sleeps : e.word ≡ word.Await → IsSame old mid → WaitsAs mid.seen mid.seat
      (on_condition (signalled e.at e.n))
  sleeps w same =
      let r = records (view_of s.found s.beside) (view_of mid.seen s.beside_left) old.seat (Await c) e
      name s.answered in
      let seat : e.seat ≡ old.seat = first.seat in
      let asleep : SleepsAs (start_at s.found) (e ∷ s.found.entries) e.seat (signalled e.at e.n) =
      falls_asleep (start_at s.found) s.found.entries (Await c) e
      (subst (λ (i : ℕ). entry_for (start_at s.found) s.found.entries i (Await c) ≡ Ok (Some e))
      (sym seat) rec) w in
      let here : SleepsAs (start_at s.found) (e ∷ s.found.entries) mid.seat (signalled e.at e.n) =
      subst (λ (i : ℕ). SleepsAs (start_at s.found) (e ∷ s.found.entries) i (signalled e.at e.n))
      (seat ∙ sym same.seat)
      asleep in
      inl (subst (λ (b : Base). SleepsAs (based b) mid.seen.entries mid.seat
      (signalled e.at e.n)) (sym r.base)
      (subst (λ (l : List Entry). SleepsAs (start_at s.found) l mid.seat (signalled e.at e.n))
      (sym r.entries) here))

  gave : e.word ≡ word.Await → IsSame old mid → IsSound mid → e.n ≡ holds_of old X
  unfolding header_of
  gave w same shows =
      let r = records (view_of s.found s.beside) (view_of mid.seen s.beside_left) old.seat (Await c) e
      name s.answered in
      let x = idle_made (start_at s.found) s.found.entries old.seat (Await c) e refl rec in
      let header : s.found.base.header ≡ old.lock.header =
      ap (λ (b : Base). b.header) (sym r.base)
      ∙ (shows.header ∙ ap (λ (l : LockId). l.header) same.lock) in
      await_gives (counts (start_at s.found) s.found.entries) old.seat c e x.is w
      ∙ sym (ap (λ (f : Mode → ℕ). f X)
      (own_holds s.found old.lock.header old.seat old.mine s.agrees header))

  -- and the end of the wait after it
  pub ends_await : e.word ≡ word.Await → IsSame old mid → IsSound mid → (new : Shown) (l : Limits) (last : Entry) →
      LimitsFor did old.seen how l → Before mid.seen new.seen → IsWaited did mid (first_stage how) l last new →
      IsAwait did old c how (Ok last) new
  ends_await w same shows new l last for after waited =
      by (waited (on_condition (signalled e.at e.n)) (sleeps w same))
    where
      by : IsWait did mid (on_condition (signalled e.at e.n)) (first_stage how) l last new →
          IsAwait did old c how (Ok last) new
      by x = inr record {
        not_interrupted = none;
        slept = e;
        await = w;
        gave_up = gave w same shows;
        sleeps = there_later did old mid.seen new.seen (Await c) e
            (at_once did old mid (Await c) e (name, s, woken)).made after;
        limits = l;
        limited = for;
        step = x.step;
        made = made_later did old mid new x.step last s.after same x.made;
        last = x.last;
        end = end x.end;
        again = λ q. subst (λ (i : ℕ). IsNotLost did i (Ok last)) same.seat (x.again q);
      }
        where
          end : ((new.mine ≡ last ∷ mid.mine) × (last ≡ back_from mid.seat (signalled e.at e.n))
              × EndComesOf did mid.seat l (first_stage how) (on_condition (signalled e.at e.n))
              (IsNotLost did mid.seat (Ok last)) x.step)
              ⊎ BackFromLapse did mid (signalled e.at e.n) (first_stage how) l x.step last new →
              ReturnsSignalled did old how l e x.step last new ⊎ LapsesAndReturns did old how l e x.step last new
          end (inl z) = inl record {
            comes = subst (λ (i : ℕ). EndComesOf did i l (first_stage how)
                (on_condition (signalled e.at e.n)) (IsNotLost did i (Ok last)) x.step) same.seat z.2;
            back = z.1 ∙ ap (λ (i : ℕ). back_from i (signalled e.at e.n)) same.seat;
            mine = z.0 ∙ ap (λ (l : List Entry). last ∷ l) s.mine;
          }
          end (inr z) =
              let at : lapse_from mid.seat (signalled e.at e.n) z.how ≡
              lapse_from old.seat (signalled e.at e.n) z.how =
              ap (λ (i : ℕ). lapse_from i (signalled e.at e.n) z.how) same.seat in
              inr record {
                end = z.how;
                may = may_for did old.seen how l z.how for z.lapse.may;
                step = z.lapse.step;
                comes = subst (λ (i : ℕ). ComesOf did i l (first_stage how) z.lapse.step) same.seat
                    z.lapse.comes;
                lapse = subst (λ (y : Entry). IsMade did old z.lapse.step y new.seen) at
                    (made_later did old mid new z.lapse.step
                    (lapse_from mid.seat (signalled e.at e.n) z.how) s.after same z.lapse.made);
                looks = z.looks;
                back = z.back ∙ ap (λ (i : ℕ). back_from i (lapsed (signalled e.at e.n) z.how)) same.seat;
                mine = z.mine
                    ∙ (ap (λ (y : Entry). last ∷ y ∷ mid.mine) at
                    ∙ ap (λ (l : List Entry). last ∷ lapse_from old.seat (signalled e.at e.n) z.how ∷ l)
                    s.mine);
              }

-- a pending interrupt
pub refused : (did : Deed → Type 0) (old new : Shown) (c : ℕ) (how : How) (r : Result Entry Fault) →
    WasInterrupted did old.seat how → IsEntered did old (EntryInterrupt X 1) r new →
    IfErr r (λ _. did (interrupted old.seat)) → IsAwait did old c how r new
refused did old new c how (Ok e) is s again = inl (
  EntryInterrupt X 1,
  inr (refl, refused_at_once old new X 1 e s.0 s.1, is),
  at_once did old new (EntryInterrupt X 1) e s,
)
refused did old new c how (Err f) is s again =
    record {
      step = EntryInterrupt X 1;
      first = inr (refl, is, again);
      stepped = failed old new (EntryInterrupt X 1) f s;
    }
