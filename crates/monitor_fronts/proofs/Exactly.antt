-- How many holds a call adds or takes.
use Rattle.std.proofs.Common.{◌≡◌, ◌⊎◌, inl, inr, ℕ, ◌+◌, ◌-◌, ◌<◌, ◌==◌, eqb, Bool, true, false, ◌&&◌, cond, List, ◌∷◌, Some, Result, Ok, Err, refl, sym, ap, ◌∙◌, subst, arith, eq-eqb, lt-ltb}
use Rattle.monitor_fronts.specs.Below.{End, Entry, Mode, X, S, Word, Fault, Header, Object, Lock, ReadWrite, Semaphore, Latch, Step, Acquire, EntryInterrupt, Give, Try, TryFair, Base, could, limit, try_held_back, first_mode, Counts, counts, held, holds_after, in_holds, is_lock, Start, opening, entry_for, gave, plain, Deed, header_of, LockId, AtOnce, EndsAtOnce, IsAcquire, IsAtOnce, IsEndFor, first_step, has_time, is_timed, start_at, view_of, holds_of, Shown, IsSound, IsEntered, IsSame, asking, How, Plain, Interruptible, Timed}
use Rattle.history.specs.declared.entry.End.TheVariants as end
use Rattle.history.specs.declared.entry.Word.TheVariants as word
use Rattle.history.specs.declared.fault.Fault.TheVariants as fault
use Rattle.monitor.proofs.Acquiring.{idle_made}
use Rattle.monitor.proofs.InLine.{records}
use Rattle.monitor.proofs.Loads.{own_holds}
use Rattle.monitor_fronts.specs.Returned.{whether_by, whether_of}
use Rattle.monitor_fronts.specs.Holding.{Adds, gained, other}
use Rattle.monitor_fronts.proofs.Counting.{after, found_lock, of_own, queued_adds_none}
use Rattle.history.proofs.OneOwner.{lock_holds}

-- An entry that makes this number of a seat's holds in a mode, and leaves those in the other.
record Counts_as (m : Mode) (k : Header) (i : ℕ) (e : Entry) (holds_then : ℕ → ℕ) : Type 0 where
  own : (had : ℕ) → after m k i e had ≡ holds_then had
  others : (had : ℕ) → after (other m) k i e had ≡ had

if_own : (i x had : ℕ) (c : Bool) → cond ((i == i) && c) x had ≡ cond (true && c) x had
if_own i x had c = ap (λ (b : Bool). cond (b && c) x had) (eq-eqb i i refl)

-- what a seat's own entry makes of its holds
own_entry : (m : Mode) (k : Header) (i : ℕ) (w : Word) (n at : ℕ) (how : End) →
    Counts_as m k i (record { seat = i; word = w; mode = m; n = n; at = at; end = how })
    (λ had. holds_after k.object w n had)
own_entry X k i w n at how =
    record {
      own = λ had. if_own i (holds_after k.object w n had) had true;
      others = λ had. if_own i (holds_after k.object w n had) had false;
    }
own_entry S k i w n at how =
    record {
      own = λ had. if_own i (holds_after k.object w n had) had true;
      others = λ had. if_own i (holds_after k.object w n had) had false;
    }

-- an entry that adds exactly what its call tells
abbrev Gains : Mode → Header → ℕ → Entry → Type 0
Gains m k i e = Counts_as m k i e (λ had. had + gained (whether_of (Ok e)))

gains_by : (m : Mode) (k : Header) (i : ℕ) (w : Word) (n at : ℕ) (how : End) →
    ((had : ℕ) → holds_after k.object w n had
    ≡ had + gained (whether_of (Ok (record { seat = i; word = w; mode = m; n = n; at = at; end = how })))) →
    Gains m k i (record { seat = i; word = w; mode = m; n = n; at = at; end = how })
gains_by m k i w n at how is =
    let entry = own_entry m k i w n at how in
    record { own = λ had. entry.own had ∙ is had; others = entry.others }

gains_as : (m : Mode) (k : Header) (i : ℕ) (e f : Entry) → e ≡ f → Gains m k i f → Gains m k i e
gains_as m k i e f q g = subst (λ (z : Entry). Gains m k i z) (sym q) g

adds_none : (had : ℕ) → had ≡ had + 0
adds_none had = omega arith

got : (k : Header) (had : ℕ) → is_lock k.object ≡ true → had + in_holds k.object 1 ≡ had + 1
got k had lock = ap (λ (n : ℕ). had + n) (lock_holds k.object 1 lock)

as_plain : (i : ℕ) (w : Word) (m : Mode) (n : ℕ) (e : Entry) → e ≡ plain i w m n → e ≡ plain i e.word m n
as_plain i w m n e q = q ∙ ap (λ (z : Word). plain i z m n) (sym (ap (λ (z : Entry). z.word) q))

-- the entry of an acquire's first step
pub first_plain : (s : Start) (h : List Entry) (i : ℕ) (how : How) (m : Mode) (n : ℕ) (e : Entry) →
    entry_for s h i (first_step how m n) ≡ Ok (Some e) → e ≡ plain i e.word m n
first_plain s h i Plain m n e q = as_plain i _ m n e (idle_made s h i (Acquire m n) e refl q).is
first_plain s h i Interruptible m n e q = as_plain i _ m n e (idle_made s h i (Acquire m n) e refl q).is
first_plain s h i (Timed ms) m n e q = by (eqb ms 0) q
  where
    by : (b : Bool) → entry_for s h i (cond b (TryFair m n) (Acquire m n)) ≡ Ok (Some e) → e ≡ plain i e.word m n
    by true r = as_plain i _ m n e (idle_made s h i (TryFair m n) e refl r).is
    by false r = as_plain i _ m n e (idle_made s h i (Acquire m n) e refl r).is

at_once_gains : (m : Mode) (how : How) (k : Header) (i : ℕ) (w : Word) → is_lock k.object ≡ true → AtOnce how w →
    Gains m k i (plain i w m 1)
at_once_gains m how k i word.Got lock a = gains_by m k i word.Got 1 0 end.None (λ had. got k had lock)
at_once_gains m how k i (word.Refused fault.TooManyHolds) lock a =
    gains_by m k i (word.Refused fault.TooManyHolds) 1 0 end.None (λ had. adds_none had)
at_once_gains m how k i word.Missed lock a = gains_by m k i word.Missed 1 0 end.None (λ had. adds_none had)
at_once_gains m how k i _ lock a = absurd a

first_gains : (did : Deed → Type 0) (old : Shown) (m : Mode) (how : How) (step : Step) (e : Entry) (new : Shown) →
    is_lock old.lock.header.object ≡ true → IsAtOnce did old.seat how m 1 step e.word →
    EndsAtOnce did old step e new → Gains m old.lock.header old.seat e
first_gains did old m how step e new lock (inl a) x =
    let s = x.made in
    let made = subst (λ (t : Step). entry_for (start_at s.front) s.front.entries old.seat t ≡ Ok (Some e)) a.0
    s.made in
    gains_as m old.lock.header old.seat e (plain old.seat e.word m 1)
    (first_plain (start_at s.front) s.front.entries old.seat how m 1 e made)
    (at_once_gains m how old.lock.header old.seat e.word lock a.1)
first_gains did old m how step e new lock (inr b) x =
    let s = x.made in
    let made = subst (λ (t : Step). entry_for (start_at s.front) s.front.entries old.seat t ≡ Ok (Some e)) b.0
    s.made in
    gains_as m old.lock.header old.seat e (plain old.seat (word.Refused fault.Interrupted) m 1)
    (idle_made (start_at s.front) s.front.entries old.seat (EntryInterrupt m 1) e refl made).is
    (gains_by m old.lock.header old.seat (word.Refused fault.Interrupted) 1 0 end.None (λ had. adds_none had))

end_gains : (m : Mode) (how : How) (k : Header) (i : ℕ) (e : Entry) → is_lock k.object ≡ true →
    IsEndFor how i (asking i m 1) e → Gains m k i e
end_gains m how k i e lock (inl q) =
    gains_as m k i e _ q (gains_by m k i word.Granted 1 0 end.None (λ had. got k had lock))
end_gains m how k i e lock (inr (inl q)) =
    gains_as m k i e _ q.0 (gains_by m k i word.Left 1 0 end.Timeout (λ had. adds_none had))
end_gains m how k i e lock (inr (inr q)) =
    gains_as m k i e _ q.0 (gains_by m k i word.Left 1 0 end.Interrupt (λ had. adds_none had))

-- the holds of a pass, by what its own entries are now
pub by_own : (old new : Shown) (m : Mode) (mine : List Entry) → IsSame old new → new.mine ≡ mine →
    holds_of new m ≡ held (opening old.lock.header) mine old.seat m
by_own old new m mine same is =
    of_own old new m same ∙ ap (λ (l : List Entry). held (opening old.lock.header) l old.seat m) is

-- a pass with no entry more
pub still : (old new : Shown) (m : Mode) (f : Fault) → IsSame old new → new.mine ≡ old.mine → Adds m old (Err f) new
still old new m f same mine =
    record {
      own = by_own old new m old.mine same mine ∙ adds_none (holds_of old m);
      others = by_own old new (other m) old.mine same mine;
    }

-- a pass with one entry more
one_more : (old new : Shown) (m : Mode) (e : Entry) → IsSame old new → new.mine ≡ e ∷ old.mine →
    Gains m old.lock.header old.seat e → Adds m old (whether_of (Ok e)) new
one_more old new m e same mine g =
    record {
      own = by_own old new m (e ∷ old.mine) same mine ∙ g.own (holds_of old m);
      others = by_own old new (other m) (e ∷ old.mine) same mine ∙ g.others (holds_of old (other m));
    }

-- an acquire adds one hold exactly where it tells so
pub acquire_gains : (did : Deed → Type 0) (old new : Shown) (m : Mode) (how : How) (r : Result Entry Fault) →
    is_lock old.lock.header.object ≡ true → IsSame old new → IsAcquire did old m 1 how r new →
    Adds m old (whether_of r) new
acquire_gains did old new m how (Ok e) lock same (inl a) =
    one_more old new m e same a.2.mine (first_gains did old m how a.0 e new lock a.1 a.2)
acquire_gains did old new m how (Ok e) lock same (inr x) =
    let k = old.lock.header in
    let g = end_gains m how k old.seat e lock x.end in
    let queued : (o : Mode) → after o k old.seat x.joined (holds_of old o) ≡ holds_of old o = λ o.
    queued_adds_none o k old.seat x.joined (holds_of old o) x.queued in
    record {
      own =
          by_own old new m (e ∷ x.joined ∷ old.mine) same x.mine
          ∙ (g.own (after m k old.seat x.joined (holds_of old m))
          ∙ ap (λ (n : ℕ). n + gained (whether_of (Ok e))) (queued m));
      others =
          by_own old new (other m) (e ∷ x.joined ∷ old.mine) same x.mine
          ∙ (g.others (after (other m) k old.seat x.joined (holds_of old (other m))) ∙ queued (other m));
    }
acquire_gains did old new m how (Err f) lock same x = still old new m f same x.stepped.mine

pub gave_own : (o : Object) (k : Counts) (i : ℕ) (m : Mode) → is_lock o ≡ true → 0 < k.held i m →
    gave o k i m 1 ≡ word.Gave
gave_own (Lock p) k i m q l =
    ap (λ (b : Bool). cond b word.Gave (word.Refused fault.NotOwner)) (lt-ltb 0 (k.held i m) l)
gave_own (ReadWrite p) k i m q l =
    ap (λ (b : Bool). cond b word.Gave (word.Refused fault.NotOwner)) (lt-ltb 0 (k.held i m) l)
gave_own (Semaphore p c) k i m q l = cc
gave_own (Latch c) k i m q l = cc

-- what a give by a holder records
pub gave_is : (did : Deed → Type 0) (old new : Shown) (m : Mode) (e : Entry) →
    is_lock old.lock.header.object ≡ true → IsSame old new → IsSound new →
    IsEntered did old (Give m 1) (Ok e) new → 0 < holds_of old m → e ≡ plain old.seat word.Gave m 1
unfolding header_of
gave_is did old new m e lock same shows s some =
    let k = old.lock.header in
    let x = s.1 in
    let r = records (view_of x.found x.beside) (view_of new.seen x.beside_left) old.seat (Give m 1) e s.0
    x.answered in
    let i = idle_made (start_at x.found) x.found.entries old.seat (Give m 1) e refl r.made in
    let header : x.found.base.header ≡ k =
    ap (λ (b : Base). b.header) (sym r.base)
    ∙ (shows.header ∙ ap (λ (l : LockId). l.header) same.lock) in
    let own = own_holds x.found k old.seat old.mine x.agrees header in
    let there : 0 < held (start_at x.found) x.found.entries old.seat m =
    subst (λ (f : Mode → ℕ). 0 < f m) own some in
    let w = gave_own x.found.base.header.object (counts (start_at x.found) x.found.entries) old.seat m
    (found_lock old new (Give m 1) e s.0 lock same shows x) there in
    i.is ∙ ap (λ (z : Word). plain old.seat z m 1) w

-- it takes one hold, and leaves those in the other mode
pub give_takes : (did : Deed → Type 0) (old new : Shown) (m : Mode) (e : Entry) →
    is_lock old.lock.header.object ≡ true → IsSame old new → IsSound new →
    IsEntered did old (Give m 1) (Ok e) new → 0 < holds_of old m →
    (holds_of new m + 1 ≡ holds_of old m) × (holds_of new (other m) ≡ holds_of old (other m))
give_takes did old new m e lock same shows s some =
    let k = old.lock.header in
    let is = gave_is did old new m e lock same shows s some in
    let entry = own_entry m k old.seat word.Gave 1 0 end.None in
    let one = lock_holds k.object 1 lock in
    let now : (o : Mode) → holds_of new o ≡ after o k old.seat (plain old.seat word.Gave m 1) (holds_of old o) = λ o.
    by_own old new o (e ∷ old.mine) same s.1.mine ∙ ap (λ (z : Entry). after o k old.seat z (holds_of old o)) is in
    let left : holds_of new m ≡ holds_of old m - in_holds k.object 1 = now m ∙ entry.own (holds_of old m) in
    (omega (arith, left, one, some), now (other m) ∙ entry.others (holds_of old (other m)))

-- the words that a try may be recorded by
pub tried_words : (b c d : Bool) →
    let w = cond b word.Missed (cond c (word.Refused fault.TooManyHolds) (cond d word.TryGot word.Missed)) in
    (w ≡ word.Missed) ⊎ ((w ≡ word.Refused fault.TooManyHolds) ⊎ (w ≡ word.TryGot))
tried_words true c d = inl refl
tried_words false true d = inr (inl refl)
tried_words false false true = inr (inr refl)
tried_words false false false = inl refl

tries_gain : (m : Mode) (k : Header) (i : ℕ) (w : Word) → is_lock k.object ≡ true →
    (w ≡ word.Missed) ⊎ ((w ≡ word.Refused fault.TooManyHolds) ⊎ (w ≡ word.TryGot)) → Gains m k i (plain i w m 1)
tries_gain m k i w lock (inl q) =
    subst (λ (z : Word). Gains m k i (plain i z m 1)) (sym q)
    (gains_by m k i word.Missed 1 0 end.None (λ had. adds_none had))
tries_gain m k i w lock (inr (inl q)) =
    subst (λ (z : Word). Gains m k i (plain i z m 1)) (sym q)
    (gains_by m k i (word.Refused fault.TooManyHolds) 1 0 end.None (λ had. adds_none had))
tries_gain m k i w lock (inr (inr q)) =
    subst (λ (z : Word). Gains m k i (plain i z m 1)) (sym q)
    (gains_by m k i word.TryGot 1 0 end.None (λ had. got k had lock))

-- a try adds one hold exactly where it tells so
pub try_gains : (did : Deed → Type 0) (old new : Shown) (m : Mode) (r : Result Entry Fault) →
    is_lock old.lock.header.object ≡ true → IsSame old new → IsEntered did old (Try m 1) r new →
    Adds m old (whether_of r) new
try_gains did old new m (Ok e) lock same s =
    let k = old.lock.header in
    let x = s.1 in
    let r = records (view_of x.found x.beside) (view_of new.seen x.beside_left) old.seat (Try m 1) e s.0
    x.answered in
    let i = idle_made (start_at x.found) x.found.entries old.seat (Try m 1) e refl r.made in
    let n = counts (start_at x.found) x.found.entries in
    let first = first_mode (start_at x.found) x.found.entries in
    let w = tried_words (try_held_back n first old.seat m) (limit n old.seat m) (could n old.seat m 1) in
    one_more old new m e same x.mine (gains_as m k old.seat e _ i.is (tries_gain m k old.seat _ lock w))
try_gains did old new m (Err f) lock same s = still old new m f same s.mine

pub timed : (how : How) → has_time how → is_timed how
timed Plain t = t
timed Interruptible t = t
timed (Timed ms) t = tt

-- an acquire that waits as long as it must doesn't time out
ends_untimed : (m : Mode) (n : ℕ) (how : How) (i : ℕ) (e : Entry) → (is_timed how → ⊥) →
    IsEndFor how i (asking i m n) e → whether_of (Ok e) ≡ Ok false → ⊥
ends_untimed m n how i e never (inl q) told =
    let t = ap (λ (z : Entry). whether_of (Ok z)) (sym q) ∙ told in cc
ends_untimed m n how i e never (inr (inl q)) told = never (timed how q.1)
ends_untimed m n how i e never (inr (inr q)) told =
    let t = ap (λ (z : Entry). whether_of (Ok z)) (sym q.0) ∙ told in cc

at_once_untimed : (how : How) (w : Word) → (is_timed how → ⊥) → AtOnce how w →
    whether_by w end.None ≡ Ok false → ⊥
at_once_untimed how word.Got never a told = cc
at_once_untimed how (word.Refused fault.TooManyHolds) never a told = cc
at_once_untimed how word.Missed never a told = never (subst is_timed (sym a) tt)
at_once_untimed how _ never a told = absurd a

pub waits_to_the_end : (did : Deed → Type 0) (old new : Shown) (m : Mode) (n : ℕ) (how : How)
    (r : Result Entry Fault) → (is_timed how → ⊥) → IsAcquire did old m n how r new → whether_of r ≡ Ok false → ⊥
waits_to_the_end did old new m n how (Ok e) never (inl (step, inl a, x)) told =
    let s = x.made in
    let made = subst (λ (t : Step). entry_for (start_at s.front) s.front.entries old.seat t ≡ Ok (Some e)) a.0
    s.made in
    let q = first_plain (start_at s.front) s.front.entries old.seat how m n e made in
    at_once_untimed how e.word never a.1 (sym (ap (λ (z : Entry). whether_by e.word z.end) q) ∙ told)
waits_to_the_end did old new m n how (Ok e) never (inl (step, inr b, x)) told =
    let t = ap (λ (w : Word). whether_by w e.end) (sym b.1) ∙ told in cc
waits_to_the_end did old new m n how (Ok e) never (inr x) told =
    ends_untimed m n how old.seat e never x.end told
waits_to_the_end did old new m n how (Err f) never x told = cc
