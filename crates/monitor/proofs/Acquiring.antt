-- The first step of an acquire, and how its parts fit together.
use Rattle.std.proofs.Common.{◌≡◌, ◌≢◌, ◌⊎◌, inl, inr, ⊎_elim, ℕ, eqb, Bool, true, false, cond, List, [], ◌∷◌, Option, Some, None, is_some, IsSome, IfErr, Result, Ok, Err, refl, sym, ap, ◌∙◌, subst, eq-eqb, eqb-true}
use Rattle.std.specs.List.{filter}
use Rattle.monitor.specs.Below.{Point, could, limit, held_back, counts, line, place_of, first_mode, Phase, Idle, InLine, Sleeping, phase, suits, waits, sleeps_below, Base, based, Start, entry_for, phase_entry, idle_entry, named, plain, Entry, Mode, Word, Fault, Recorded, Step, Acquire, TryFair, EntryInterrupt, Before, Deed, interrupted, took_interrupt}
use Rattle.history.specs.declared.entry.Word.TheVariants as word
use Rattle.history.specs.declared.fault.Fault.TheVariants as fault
use Rattle.history.proofs.Entering.{admitted}
use Rattle.history.proofs.LineLemmas.{line_after, stays}
use Rattle.history.proofs.SleepLemmas.{idle_parts}
use Rattle.word_lock.proofs.PointLaws.{before_refl, before_trans}
use Rattle.monitor.specs.Prelude.{start_at, view_of, Shown, IsSame, IsStep, IsEntered, IsUnparked, How, Plain, Interruptible, Timed, Limits, AtOnce, IsEndFor, IsUntil, LimitsFor, EndsAtOnce, EndsUnrecorded, IsAcquire, WasInterrupted, WasNotInterrupted, first_step, is_interruptible, is_timed, has_time, AfterPark, StandsFor, IsMade, IsLast, IsNotLost, in_line, WaitsAs, asking, with_entry}
use Rattle.monitor.specs.declared.waiting.Stage.TheVariants.{Parks}
use Rattle.monitor.specs.inner.Waits.{IsEnd, IsWait, IsWaited}
use Rattle.monitor.proofs.Turns.{there_later}
use Rattle.history.proofs.Staying.{place_filter, place_behind}
use Rattle.monitor.proofs.InLine.{failed, records, made_in, same_self, woken_as}

-- an entry of a step that is none of one who waits is an idle seat's
pub record IsIdleEntry (s : Start) (h : List Entry) (i : ℕ) (step : Step) (e : Entry) : Type 0 where
  pub idle : phase s h i ≡ Idle
  pub is : e ≡ idle_entry s h i step

pub idle_made : (s : Start) (h : List Entry) (i : ℕ) (step : Step) (e : Entry) → waits step ≡ false →
    entry_for s h i step ≡ Ok (Some e) → IsIdleEntry s h i step e
idle_made s h i step e w q = let a = admitted s h i step e q in by (phase s h i) refl a.in_phase a.made
  where
    by : (p : Phase) → phase s h i ≡ p → suits p step ≡ true → phase_entry s h i step p ≡ Some e →
        IsIdleEntry s h i step e
    by Idle is t m = record { idle = is; is = cc }
    by (InLine a) is t m = cc
    by Sleeping is t m = cc

acquired_words : (b c d : Bool) →
    let w = cond b word.Queued (cond c (word.Refused fault.TooManyHolds) (cond d word.Got word.Queued)) in
    (w ≡ word.Queued) ⊎ ((w ≡ word.Refused fault.TooManyHolds) ⊎ (w ≡ word.Got))
acquired_words true c d = inl refl
acquired_words false true d = inr (inl refl)
acquired_words false false true = inr (inr refl)
acquired_words false false false = inl refl

fair_words : (b c d : Bool) →
    let w = cond b word.Missed (cond c (word.Refused fault.TooManyHolds) (cond d word.Got word.Missed)) in
    (w ≡ word.Missed) ⊎ ((w ≡ word.Refused fault.TooManyHolds) ⊎ (w ≡ word.Got))
fair_words true c d = inl refl
fair_words false true d = inr (inl refl)
fair_words false false true = inr (inr refl)
fair_words false false false = inl refl

-- what the first step of an acquire records: it joins the line, or it ends the call
First : How → Mode → ℕ → Step → Entry → Type 0
First how m n step e = ((step ≡ Acquire m n) × (e.word ≡ word.Queued)) ⊎ AtOnce how e.word

acquire_words : (s : Start) (h : List Entry) (i : ℕ) (how : How) (m : Mode) (n : ℕ) (e : Entry) →
    entry_for s h i (Acquire m n) ≡ Ok (Some e) → First how m n (Acquire m n) e
unfolding First
acquire_words s h i how m n e q =
    let x = idle_made s h i (Acquire m n) e refl q in
    let same : e.word ≡ (idle_entry s h i (Acquire m n)).word = ap (λ (z : Entry). z.word) x.is in
    let P : Word → Type 0 = AtOnce how in
    ⊎_elim (λ t. inl (refl, same ∙ t))
    (λ r. ⊎_elim (λ t. inr (subst P (sym (same ∙ t)) tt)) (λ t. inr (subst P (sym (same ∙ t)) tt)) r)
    (acquired_words (held_back (counts s h) (first_mode s h) i m) (limit (counts s h) i m)
    (could (counts s h) i m n))

fairly_words : (s : Start) (h : List Entry) (i : ℕ) (how : How) (m : Mode) (n : ℕ) (e : Entry) →
    how ≡ Timed 0 →
    entry_for s h i (TryFair m n) ≡ Ok (Some e) → First how m n (TryFair m n) e
unfolding First
fairly_words s h i how m n e zero q =
    let x = idle_made s h i (TryFair m n) e refl q in
    let same : e.word ≡ (idle_entry s h i (TryFair m n)).word = ap (λ (z : Entry). z.word) x.is in
    let P : Word → Type 0 = AtOnce how in
    ⊎_elim (λ t. inr (subst P (sym (same ∙ t)) zero))
    (λ r. ⊎_elim (λ t. inr (subst P (sym (same ∙ t)) tt)) (λ t. inr (subst P (sym (same ∙ t)) tt)) r)
    (fair_words (held_back (counts s h) (first_mode s h) i m) (limit (counts s h) i m)
    (could (counts s h) i m n))

first_words : (s : Start) (h : List Entry) (i : ℕ) (how : How) (m : Mode) (n : ℕ) (e : Entry) →
    entry_for s h i (first_step how m n) ≡ Ok (Some e) → First how m n (first_step how m n) e
first_words s h i Plain m n e q = acquire_words s h i Plain m n e q
first_words s h i Interruptible m n e q = acquire_words s h i Interruptible m n e q
first_words s h i (Timed ms) m n e q = by (eqb ms 0) refl q
  where
    by : (b : Bool) → eqb ms 0 ≡ b → entry_for s h i (cond b (TryFair m n) (Acquire m n)) ≡ Ok (Some e) →
        First (Timed ms) m n (cond b (TryFair m n) (Acquire m n)) e
    by true t r = fairly_words s h i (Timed ms) m n e (ap Timed (eqb-true ms 0 t)) r
    by false t r = acquire_words s h i (Timed ms) m n e r

-- a deadline is one of a timed call
pub only_timed : (did : Deed → Type 0) (seen : Point) (how : How) (until : Option ℕ) → IsUntil did seen how until →
    IsSome until → is_timed how
only_timed did seen Plain until q some = let z : IsSome {T = ℕ} None = subst IsSome q some in cc
only_timed did seen Interruptible until q some = let z : IsSome {T = ℕ} None = subst IsSome q some in cc
only_timed did seen (Timed ms) until q some = tt

time_left : (how : How) (m : Mode) (n : ℕ) → first_step how m n ≡ Acquire m n → is_timed how → has_time how
time_left Plain m n q t = absurd t
time_left Interruptible m n q t = absurd t
time_left (Timed ms) m n q t = by (eqb ms 0) refl q
  where
    by : (b : Bool) → eqb ms 0 ≡ b → cond b (TryFair m n) (Acquire m n) ≡ Acquire m n → ms ≢ 0
    by true u r = cc
    by false u r = λ z. let x = eq-eqb ms 0 z in cc

-- who was queued stands in line
queued_stands : (s : Start) (h : List Entry) (i : ℕ) (m : Mode) (n : ℕ) (e : Entry) →
    entry_for s h i (Acquire m n) ≡ Ok (Some e) → e.word ≡ word.Queued →
    place_of i (line s (e ∷ h)) ≡ Some (asking i m n)
queued_stands s h i m n e q w =
    let x = idle_made s h i (Acquire m n) e refl q in
    let f : Entry = plain i word.Queued m n in
    let is : e ≡ f = x.is ∙ ap (λ (z : Word). plain i z m n) (sym (ap (λ (z : Entry). z.word) x.is) ∙ w) in
    let none : place_of i (line s h) ≡ None =
    (idle_parts (place_of i (line s h)) (sleeps_below s.header.conditions s h i) x.idle).0 in
    let front : place_of i (filter (stays word.Queued i) (line s h)) ≡ None =
    place_filter (stays word.Queued i) i (line s h) (λ a same. refl) ∙ none in
    let here : place_of i (asking i m n ∷ []) ≡ Some (asking i m n) = rw (eq-eqb i i refl) refl in
    let there : place_of i (line s (f ∷ h)) ≡ Some (asking i m n) = ap (place_of i) (line_after s f h)
    ∙ (place_behind i (filter (stays word.Queued i) (line s h)) (asking i m n ∷ []) front ∙ here) in
    subst (λ (z : Entry). place_of i (line s (z ∷ h)) ≡ Some (asking i m n)) (sym is) there

-- what an entered step is, where its answer is an entry
pub entered_as : (did : Deed → Type 0) (old mid : Shown) (step is : Step) (r : Result Entry Fault)
    (e : Entry) → step ≡ is → r ≡ Ok e → IsEntered did old step r mid → IsEntered did old is (Ok e) mid
entered_as did old mid step is r e q t s =
    subst (λ (z : Step). IsEntered did old z (Ok e) mid) q (subst
    (λ (z : Result Entry Fault). IsEntered did old step z mid) t s)

-- a step that was recorded is a call of one entry
pub at_once : (did : Deed → Type 0) (old new : Shown) (step : Step) (e : Entry) →
    IsEntered did old step (Ok e) new → EndsAtOnce did old step e new
at_once did old new step e s =
    let made = made_in did old old new step e s.0 (same_self old) (before_refl old.seen) s.1 s.2 in
    record { made = made.0; last = made.1; mine = s.1.mine }

-- what was made after a later pass was made after an earlier one
pub made_later : (did : Deed → Type 0) (old mid new : Shown) (step : Step) (e : Entry) →
    Before old.seen mid.seen → IsSame old mid → IsMade did mid step e new.seen → IsMade did old step e new.seen
made_later did old mid new step e up same x =
    record {
      front = x.front;
      begins = before_trans old.seen mid.seen x.front up x.begins;
      made = subst (λ (i : ℕ). entry_for (start_at x.front) x.front.entries i step ≡ Ok (Some e)) same.seat x.made;
      there = x.there;
      wakes = woken_as did old mid (named (start_at x.front) x.front.entries e) (with_entry e x.front) same x.wakes;
    }

-- the first step of an acquire that was recorded
module _ (did : Deed → Type 0) (old mid : Shown) (how : How) (m : Mode) (n : ℕ) (e : Entry) (name : Option ℕ)
    (s : IsStep old (first_step how m n) (Ok (Recorded e name)) mid) (woken : IsUnparked did old.lock name mid.seen)
    (none : WasNotInterrupted did old.seat how) where
  rec : entry_for (start_at s.found) s.found.entries old.seat (first_step how m n) ≡ Ok (Some e)
  rec = (records (view_of s.found s.beside) (view_of mid.seen s.beside_left) old.seat (first_step how m n) e
      name s.answered).made

  first : First how m n (first_step how m n) e
  first = first_words (start_at s.found) s.found.entries old.seat how m n e rec

  pub is_acquire : e.word ≡ word.Queued → first_step how m n ≡ Acquire m n
  unfolding First
  is_acquire w = by first
    where
      by : First how m n (first_step how m n) e → first_step how m n ≡ Acquire m n
      by (inl x) = x.0
      by (inr x) = absurd (subst (AtOnce how) w x)

  pub ends_at_once : e.word ≢ word.Queued → IsAcquire did old m n how (Ok e) mid
  unfolding First
  ends_at_once w = by first
    where
      by : First how m n (first_step how m n) e → IsAcquire did old m n how (Ok e) mid
      by (inl x) = absurd (w x.1)
      by (inr x) = inl (
        first_step how m n,
        inl (refl, x, none),
        at_once did old mid (first_step how m n) e (name, s, woken),
      )

  pub stands : e.word ≡ word.Queued → IsSame old mid → WaitsAs mid.seen mid.seat
      (in_line (asking mid.seat m n))
  stands w same =
      let r = records (view_of s.found s.beside) (view_of mid.seen s.beside_left) old.seat
      (first_step how m n) e name s.answered in
      let made = subst (λ (t : Step). entry_for (start_at s.found) s.found.entries old.seat t ≡
      Ok (Some e)) (is_acquire w) rec in
      let q : place_of old.seat (line (start_at s.found) (e ∷ s.found.entries)) ≡
      Some (asking old.seat m n) =
      queued_stands (start_at s.found) s.found.entries old.seat m n e made w in (
        refl,
        subst (λ (i : ℕ). StandsFor mid.seen i (asking i m n)) (sym same.seat)
            (subst (λ (b : Base). place_of old.seat (line (based b) mid.seen.entries) ≡
            Some (asking old.seat m n)) (sym r.base)
            (subst (λ (l : List Entry). place_of old.seat (line (start_at s.found) l) ≡
            Some (asking old.seat m n)) (sym r.entries) q)),
      )

  -- and the end of the wait after it
  pub ends_in_line : e.word ≡ word.Queued → IsSame old mid → (new : Shown) (l : Limits) (last : Entry) →
      LimitsFor did old.seen how l → Before mid.seen new.seen → IsWaited did mid Parks l last new →
      IsAcquire did old m n how (Ok last) new
  ends_in_line w same new l last for after waited =
      by (waited (in_line (asking mid.seat m n)) (stands w same))
    where
      made : IsMade did old (first_step how m n) e mid.seen × IsLast e mid.seen
      made = made_in did old old mid (first_step how m n) e name (same_self old) (before_refl old.seen) s woken

      joins : IsMade did old (Acquire m n) e new.seen
      joins = there_later did old mid.seen new.seen (Acquire m n) e
          (subst (λ (t : Step). IsMade did old t e mid.seen) (is_acquire w) made.0) after

      ends_for : IsEnd l mid.seat (asking mid.seat m n) last →
          IsEndFor how old.seat (asking old.seat m n) last
      ends_for x = subst (λ (i : ℕ). IsEndFor how i (asking i m n) last) same.seat
          (⊎_elim inl
          (λ r. inr (⊎_elim
          (λ t. inl (t.0, time_left how m n (is_acquire w) (only_timed did old.seen how l.until for.until t.1)))
          (λ t. inr (t.0, sym for.interruptible ∙ t.1)) r)) x)

      by : IsWait did mid (in_line (asking mid.seat m n)) Parks l last new → IsAcquire did old m n how (Ok last) new
      by x = end x.end
        where
          end : ((new.mine ≡ last ∷ mid.mine) × IsEnd l mid.seat (asking mid.seat m n) last
              × AfterPark did mid.seat l x.step) ⊎ ⊥ → IsAcquire did old m n how (Ok last) new
          end (inr z) = absurd z
          end (inl z) = inr record {
            asked = is_acquire w;
            not_interrupted = none;
            joined = e;
            queued = w;
            joins = joins;
            limits = l;
            limited = for;
            step = x.step;
            comes = subst (λ (i : ℕ). AfterPark did i l x.step) same.seat z.2;
            again = λ q. subst (λ (i : ℕ). IsNotLost did i (Ok last)) same.seat (x.again q);
            made = made_later did old mid new x.step last s.after same x.made;
            last = x.last;
            end = ends_for z.1;
            mine = z.0 ∙ ap (λ (l : List Entry). last ∷ l) s.mine;
          }

-- a pending interrupt
pub refused_at_once : (old new : Shown) (m : Mode) (n : ℕ) (e : Entry) (name : Option ℕ) →
    IsStep old (EntryInterrupt m n) (Ok (Recorded e name)) new → e.word ≡ word.Refused fault.Interrupted
refused_at_once old new m n e name s =
    let r = records (view_of s.found s.beside) (view_of new.seen s.beside_left) old.seat (EntryInterrupt m n)
    e name s.answered in
    let x = idle_made (start_at s.found) s.found.entries old.seat (EntryInterrupt m n) e refl r.made in
    ap (λ (z : Entry). z.word) x.is

pub refused : (did : Deed → Type 0) (old new : Shown) (how : How) (m : Mode) (n : ℕ) (r : Result Entry Fault) →
    WasInterrupted did old.seat how → IsEntered did old (EntryInterrupt m n) r new →
    IfErr r (λ _. did (interrupted old.seat)) → IsAcquire did old m n how r new
refused did old new how m n (Ok e) is s again = inl (
  EntryInterrupt m n,
  inr (refl, refused_at_once old new m n e s.0 s.1, is),
  at_once did old new (EntryInterrupt m n) e s,
)
refused did old new how m n (Err f) is s again =
    record {
      step = EntryInterrupt m n;
      first = inr (refl, is, again);
      stepped = failed old new (EntryInterrupt m n) f s;
    }

-- what a call found at its entry
pub found_none : {A : Type 0} → (did : Deed → Type 0) (i : ℕ) (how : How) (found : Option A) →
    (is_interruptible how ≡ true → did (took_interrupt i (is_some found))) → found ≡ None →
    WasNotInterrupted did i how
found_none did i how found asked q = λ minds.
    subst (λ (b : Bool). did (took_interrupt i b)) (ap is_some q) (asked minds)

pub found_one : {A : Type 0} → (did : Deed → Type 0) (i : ℕ) (how : How) (found : Option A) (it : A) →
    (is_interruptible how ≡ true → did (took_interrupt i (is_some found))) →
    (IsSome found → is_interruptible how ≡ true) → found ≡ Some it → WasInterrupted did i how
found_one did i how found it asked minded q =
    let minds : is_interruptible how ≡ true = minded (ap is_some q) in
    (minds, subst (λ (b : Bool). did (took_interrupt i b)) (ap is_some q) (asked minds))

-- a call whose first step wasn't recorded
pub unrecorded : (did : Deed → Type 0) (old new : Shown) (how : How) (starts step refuses : Step)
    (r : Result Entry Fault) (f : Fault) → WasNotInterrupted did old.seat how → step ≡ starts → r ≡ Err f →
    IsEntered did old step r new → EndsUnrecorded did old how starts refuses f new
unrecorded did old new how starts step refuses r f none is is_err s =
    record {
      step = step;
      first = inl (is, none);
      stepped = failed old new step f (subst (λ (z : Result Entry Fault). IsEntered did old step z new) is_err s);
    }
