-- What the calls of a lock leave of a pass's holds.
use Rattle.std.proofs.Common.{◌≡◌, ◌⊎◌, inl, inr, ℕ, zero, suc, ◌+◌, ◌==◌, nat_lt, Bool, true, false, ◌&&◌, not, cond, List, ◌∷◌, length, Option, Result, Ok, Err, refl, sym, ap, ◌∙◌, subst, arith, eq-eqb}
use Rattle.std.specs.List.{All}
use Rattle.std.proofs.lemmas.List.Elements.{All-nil, All-cons}
use Rattle.monitor_fronts.specs.Below.{End, Entry, Mode, X, S, Word, Fault, Header, Recorded, Step, Await, Signal, SignalAll, Base, is_seat, back_from, signalled, lapsed, lapse_from, Sleep, Deed, header_of, LockId, IsAwait, IsAwaitRefused, LapsesAndReturns, ReturnsSignalled, Counts, counts, held, holds_after, owner, same_mode, is_lock, opening, at_most_one, awaits, plain, signals, sleepers, start_at, view_of, Point, Shown, IsSound, opening_pass, opening_passes, holds_of, IsEntered, IsSame, IsStep, How}
use Rattle.history.specs.declared.entry.End.TheVariants as end
use Rattle.history.specs.declared.entry.Word.TheVariants as word
use Rattle.history.specs.declared.fault.Fault.TheVariants as fault
use Rattle.monitor.specs.inner.Load.{is_signal}
use Rattle.monitor.proofs.Acquiring.{idle_made}
use Rattle.monitor.proofs.InLine.{records}
use Rattle.monitor_fronts.specs.Holding.{holds}

-- the holds of a seat in a mode, with an entry in front
abbrev pub after : Mode → Header → ℕ → Entry → ℕ → ℕ
after m k i e had = cond ((e.seat == i) && same_mode e.mode m) (holds_after k.object e.word e.n had) had

pub of_own : (old new : Shown) (m : Mode) → IsSame old new →
    holds_of new m ≡ held (opening old.lock.header) new.mine old.seat m
of_own old new m same = λ d. held (opening (same.lock d).header) new.mine (same.seat d) m

same_either : (b : Bool) (n : ℕ) → cond b n n ≡ n
same_either true n = refl
same_either false n = refl

pub queued_adds_none : (m : Mode) (k : Header) (i : ℕ) (e : Entry) (had : ℕ) → e.word ≡ word.Queued →
    after m k i e had ≡ had
queued_adds_none m k i e had w =
    ap (λ (z : Word). cond ((e.seat == i) && same_mode e.mode m) (holds_after k.object z e.n had) had) w
    ∙ same_either ((e.seat == i) && same_mode e.mode m) had

-- the same lock has the same object
pub of_lock : {l k : LockId} → l ≡ k → is_lock k.header.object ≡ true → is_lock l.header.object ≡ true
of_lock {l} {k} same lock = ap (λ (z : LockId). is_lock z.header.object) same ∙ lock

-- the object of a history that a step found is that of the lock
pub found_lock : (old new : Shown) (step : Step) (e : Entry) (name : Option ℕ) →
    is_lock old.lock.header.object ≡ true → IsSame old new → IsSound new →
    (s : IsStep old step (Ok (Recorded e name)) new) → is_lock s.found.base.header.object ≡ true
unfolding header_of
found_lock old new step e name lock same shows s =
    let r = records (view_of s.found s.beside) (view_of new.seen s.beside_left) old.seat step e name s.answered in
    ap (λ (b : Base). is_lock b.header.object) (sym r.base)
    ∙ (ap (λ (k : Header). is_lock k.object) shows.header ∙ of_lock same.lock lock)

-- an await that sleeps leaves nothing
await_leaves : (k : Header) (l : Counts) (i c : ℕ) (e : Entry) (had : ℕ) → e ≡ awaits l i c → e.word ≡ word.Await →
    after X k i e had ≡ 0
await_leaves k l i c e had q w = by (not (is_seat (owner l) i)) (nat_lt 0 (l.held i S)) q
  where
    sleeps : (n : ℕ) →
        after X k i (record { seat = i; word = word.Await; mode = X; n = n; at = c; end = end.None }) had ≡ 0
    sleeps n = subst (λ (b : Bool). cond (b && true) 0 had ≡ 0) (sym (eq-eqb i i refl)) refl

    by : (b d : Bool) →
        e ≡ cond b (plain i (word.Refused fault.NotOwner) X 1)
        (cond d (plain i (word.Refused fault.HoldsRead) X 1)
        (record { seat = i; word = word.Await; mode = X; n = l.held i X; at = c; end = end.None })) →
        after X k i e had ≡ 0
    by true d u = let v = sym (ap (λ (z : Entry). z.word) u) ∙ w in cc
    by false true u = let v = sym (ap (λ (z : Entry). z.word) u) ∙ w in cc
    by false false u = subst (λ (z : Entry). after X k i z had ≡ 0) (sym u) (sleeps (l.held i X))

-- who comes back holds what it gave up
back_adds : (k : Header) (i : ℕ) (w : Sleep) (had : ℕ) → after X k i (back_from i w) had ≡ had + w.holds
back_adds k i w had =
    subst (λ (b : Bool). cond (b && true) (had + w.holds) had ≡ had + w.holds) (sym (eq-eqb i i refl)) refl

lapse_adds_none : (k : Header) (i : ℕ) (w : Sleep) (how : End) (had : ℕ) →
    after X k i (lapse_from i w how) had ≡ had
lapse_adds_none k i w how had =
    subst (λ (b : Bool). cond (b && true) had had ≡ had) (sym (eq-eqb i i refl)) refl

refused_adds_none : (k : Header) (i : ℕ) (e : Entry) (had : ℕ) (f : Fault) → e.word ≡ word.Refused f →
    after X k i e had ≡ had
refused_adds_none k i e had f w =
    ap (λ (z : Word). cond ((e.seat == i) && same_mode e.mode X) (holds_after k.object z e.n had) had) w
    ∙ same_either ((e.seat == i) && same_mode e.mode X) had

refused_word : (did : Deed → Type 0) (i : ℕ) (how : How) (c : ℕ) (step : Step) (w : Word) →
    IsAwaitRefused did i how c step w → (f : Fault) × (w ≡ word.Refused f)
refused_word did i how c step w (inl x) = by x.1
  where
    by : (w ≡ word.Refused fault.NotOwner) ⊎ (w ≡ word.Refused fault.HoldsRead) →
        (f : Fault) × (w ≡ word.Refused f)
    by (inl y) = (fault.NotOwner, y)
    by (inr y) = (fault.HoldsRead, y)
refused_word did i how c step w (inr x) = (fault.Interrupted, x.1)

-- who awaited holds as much as before
pub await_holds : (did : Deed → Type 0) (old new : Shown) (c : ℕ) (how : How) (r : Result Entry Fault) →
    IsSame old new → IsAwait did old c how r new → holds new ≡ holds old
await_holds did old new c how (Ok e) same (inl a) =
    let k = old.lock.header in
    let f = refused_word did old.seat how c a.0 e.word a.1 in
    of_own old new X same ∙ (ap (λ (l : List Entry). held (opening k) l old.seat X) a.2.mine
    ∙ refused_adds_none k old.seat e (holds old) f.0 f.1)
await_holds did old new c how (Ok e) same (inr x) = by x.end
  where
    k : Header
    k = old.lock.header

    none : held (opening k) (x.slept ∷ old.mine) old.seat X ≡ 0
    none =
        let m = x.sleeps in
        let i = idle_made (start_at m.front) m.front.entries old.seat (Await c) x.slept refl m.made in
        await_leaves k (counts (start_at m.front) m.front.entries) old.seat c x.slept (holds old) i.is x.await

    holds_back : (w : Sleep) (rest : List Entry) → w.holds ≡ x.slept.n →
        held (opening k) rest old.seat X ≡ 0 → e ≡ back_from old.seat w →
        new.mine ≡ e ∷ rest → holds new ≡ holds old
    holds_back w rest n nothing q mine =
        let had : ℕ = held (opening k) rest old.seat X in
        let is : holds new ≡ held (opening k) (back_from old.seat w ∷ rest) old.seat X =
        of_own old new X same ∙ (ap (λ (l : List Entry). held (opening k) l old.seat X) mine
        ∙ ap (λ (z : Entry). held (opening k) (z ∷ rest) old.seat X) q) in
        let adds = back_adds k old.seat w had in
        let gave = x.gave_up in
        omega (arith, is, adds, n, nothing, gave)

    by : ReturnsSignalled did old how x.limits x.slept x.step e new
        ⊎ LapsesAndReturns did old how x.limits x.slept x.step e new → holds new ≡ holds old
    by (inl z) =
        holds_back (signalled x.slept.at x.slept.n) (x.slept ∷ old.mine) refl none z.back z.mine
    by (inr z) =
        let v = signalled x.slept.at x.slept.n in
        holds_back (lapsed v z.end) (lapse_from old.seat v z.end ∷ x.slept ∷ old.mine) refl
        (lapse_adds_none k old.seat v z.end (held (opening k) (x.slept ∷ old.mine) old.seat X) ∙ none)
        z.back z.mine
await_holds did old new c how (Err f) same x =
    of_own old new X same ∙ ap (λ (l : List Entry). held (opening old.lock.header) l old.seat X) x.stepped.mine

-- a signal changes no holds
signal_adds_none : (k : Header) (l : Counts) (w : Word) (n i c : ℕ) (had : ℕ) →
    ((m : ℕ) → holds_after k.object w m had ≡ had) → after X k i (signals l w n i c) had ≡ had
signal_adds_none k l w n i c had none = by (not (is_seat (owner l) i))
  where
    by : (b : Bool) → after X k i (cond b (plain i (word.Refused fault.NotOwner) X 1)
        (record { seat = i; word = w; mode = X; n = n; at = c; end = end.None })) had ≡ had
    by true = same_either ((i == i) && true) had
    by false =
        ap (λ (m : ℕ). cond ((i == i) && true) m had) (none n) ∙ same_either ((i == i) && true) had

told_keeps : (old new : Shown) (step : Step) (e : Entry) (name : Option ℕ) → is_signal step ≡ true →
    (s : IsStep old step (Ok (Recorded e name)) new) →
    after X old.lock.header old.seat e (holds old) ≡ holds old
told_keeps old new (Signal c) e name signal s =
    let k = old.lock.header in
    let r = records (view_of s.found s.beside) (view_of new.seen s.beside_left) old.seat (Signal c) e name
    s.answered in
    let i = idle_made (start_at s.found) s.found.entries old.seat (Signal c) e refl r.made in
    ap (λ (z : Entry). after X k old.seat z (holds old)) i.is
    ∙ signal_adds_none k (counts (start_at s.found) s.found.entries) word.Signal
    (at_most_one (length (sleepers (start_at s.found) s.found.entries c))) old.seat c (holds old) (λ m. refl)
told_keeps old new (SignalAll c) e name signal s =
    let k = old.lock.header in
    let r = records (view_of s.found s.beside) (view_of new.seen s.beside_left) old.seat (SignalAll c) e name
    s.answered in
    let i = idle_made (start_at s.found) s.found.entries old.seat (SignalAll c) e refl r.made in
    ap (λ (z : Entry). after X k old.seat z (holds old)) i.is
    ∙ signal_adds_none k (counts (start_at s.found) s.found.entries) word.SignalAll
    (length (sleepers (start_at s.found) s.found.entries c)) old.seat c (holds old) (λ m. refl)
told_keeps old new _ e name signal s = cc

pub signal_keeps : (did : Deed → Type 0) (old new : Shown) (step : Step) (r : Result Entry Fault) →
    is_signal step ≡ true → IsSame old new → IsEntered did old step r new → holds new ≡ holds old
signal_keeps did old new step (Ok e) signal same s =
    of_own old new X same ∙ (ap (λ (l : List Entry). held (opening old.lock.header) l old.seat X) s.1.mine
    ∙ told_keeps old new step e s.0 signal s.1)
signal_keeps did old new step (Err f) signal same s =
    of_own old new X same ∙ ap (λ (l : List Entry). held (opening old.lock.header) l old.seat X) s.mine

-- nobody holds anything yet
pub none_yet : (lock : LockId) (p : Point) (k n : ℕ) → All (λ (s : Shown). holds s ≡ 0) (opening_passes lock p k n)
none_yet lock p k zero = All-nil (λ (s : Shown). holds s ≡ 0)
none_yet lock p k (suc n) =
    All-cons (λ (s : Shown). holds s ≡ 0) (opening_pass lock p k) (opening_passes lock p (suc k) n) refl
    (none_yet lock p (suc k) n)
