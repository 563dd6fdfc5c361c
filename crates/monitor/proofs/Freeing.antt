-- How many permits are free after a step, and what that makes of a counted load.
use Rattle.std.proofs.Common.{◌≡◌, ◌⊎◌, inl, inr, ⊎_elim, ℕ, ◌<◌, Bool, true, false, not, cond, nat_lt, length, Some, List, [], ◌∷◌, ◌++◌, Result, Ok, Err, refl, sym, ap, ◌∙◌, subst, arith, ℤ, pos, negsuc, ◌+ℤ◌, ◌-ℤ◌, ◌≤ℤ◌, int_lt}
use Rattle.std.proofs.lemmas.Int.{ints}
use Rattle.monitor.specs.Below.{Entry, Mode, X, S, Word, Fault, Header, Object, Lock, ReadWrite, Semaphore, Latch, Point, Answer, Recorded, Sleep, Step, Acquire, Try, TryFair, EntryInterrupt, Give, Await, Signal, SignalAll, Drain, Look, Expire, Interrupt, Base, based, could, could_of, held_back, is_seat, limit, try_held_back, Counts, counts, free, free_after, owner, first_mode, CanFold, is_semaphore, Phase, Idle, phase, suits, waits, sleepers, Start, opening, at_least_none, at_most_one, awaits, entry_for, gave, idle_entry, plain, signals, CoreView, IsAnswered, counts_of, made_by, IsAllowed, drain_answer_of, LockId, Ticket, first_entries}
use Rattle.history.specs.declared.entry.End.TheVariants as end
use Rattle.history.specs.declared.entry.Word.TheVariants as word
use Rattle.history.specs.declared.fault.Fault.TheVariants as fault
use Rattle.history.proofs.Answering.{entry_seat}
use Rattle.history.proofs.Entering.{KnownBy, admitted, known}
use Rattle.history.proofs.GoodBases.{good_waits}
use Rattle.history.proofs.OneWait.{waits_from}
use Rattle.frame.proofs.Counting.{allowed}
use Rattle.monitor.specs.Prelude.{IsLawfulCore, point_of, start_at, Brings, IsFreeAfter, Moves, given_by}
use Rattle.monitor.proofs.Acquiring.{idle_made}
use Rattle.monitor.proofs.InLine.{records}
use Rattle.monitor.proofs.Sections.{Left, Section, answered_shown, left, mine_grown, sectioned}
use Rattle.monitor.proofs.Beside.{beside_of}

-- the words of the entries that take permits, and of those that give them back
abbrev takes : Word → Bool
takes word.Got = true
takes word.TryGot = true
takes word.Granted = true
takes word.Drained = true
takes _ = false

abbrev gives : Word → Bool
gives word.Gave = true
gives _ = false

abbrev gives_in : Entry → Bool
gives_in e = gives e.word

-- An entry that gives back has the number of its step, and the step of one that takes gives nothing back.
record Suits (step : Step) (e : Entry) : Type 0 where
  given : gives e.word ≡ true → e.n ≡ given_by step
  taken : takes e.word ≡ true → given_by step ≡ 0

-- a step that gives nothing back makes no entry that gives
suits_none : (step : Step) (e : Entry) → given_by step ≡ 0 → gives_in e ≡ false → Suits step e
suits_none step e none never = record {
  given = λ gave. (let z : true ≡ false = sym gave ∙ never in cc);
  taken = λ _. none;
}

acquired_gives : (b c d : Bool) →
    gives (cond b word.Queued (cond c (word.Refused fault.TooManyHolds) (cond d word.Got word.Queued))) ≡ false
acquired_gives true c d = refl
acquired_gives false true d = refl
acquired_gives false false true = refl
acquired_gives false false false = refl

tried_gives : (b c d : Bool) →
    gives (cond b word.Missed (cond c (word.Refused fault.TooManyHolds) (cond d word.TryGot word.Missed))) ≡ false
tried_gives true c d = refl
tried_gives false true d = refl
tried_gives false false true = refl
tried_gives false false false = refl

fairly_gives : (b c d : Bool) →
    gives (cond b word.Missed (cond c (word.Refused fault.TooManyHolds) (cond d word.Got word.Missed))) ≡ false
fairly_gives true c d = refl
fairly_gives false true d = refl
fairly_gives false false true = refl
fairly_gives false false false = refl

awaits_gives : (k : Counts) (i c : ℕ) → gives_in (awaits k i c) ≡ false
awaits_gives k i c = by (not (is_seat (owner k) i)) (nat_lt 0 (k.held i S))
  where
    by : (b d : Bool) → gives_in (cond b (plain i (word.Refused fault.NotOwner) X 1)
        (cond d (plain i (word.Refused fault.HoldsRead) X 1)
        (record { seat = i; word = word.Await; mode = X; n = k.held i X; at = c; end = end.None }))) ≡ false
    by true d = refl
    by false true = refl
    by false false = refl

signals_gives : (k : Counts) (w : Word) (n i c : ℕ) → gives w ≡ false → gives_in (signals k w n i c) ≡ false
signals_gives k w n i c never = by (not (is_seat (owner k) i))
  where
    by : (b : Bool) → gives_in (cond b (plain i (word.Refused fault.NotOwner) X 1)
        (record { seat = i; word = w; mode = X; n = n; at = c; end = end.None })) ≡ false
    by true = refl
    by false = never

gave_takes : (o : Object) (k : Counts) (i : ℕ) (m : Mode) (n : ℕ) → takes (gave o k i m n) ≡ false
gave_takes (Lock p) k i m n = by (nat_lt 0 (k.held i m))
  where
    by : (b : Bool) → takes (cond b word.Gave (word.Refused fault.NotOwner)) ≡ false
    by true = refl
    by false = refl
gave_takes (ReadWrite p) k i m n = by (nat_lt 0 (k.held i m))
  where
    by : (b : Bool) → takes (cond b word.Gave (word.Refused fault.NotOwner)) ≡ false
    by true = refl
    by false = refl
gave_takes (Semaphore p c) k i m n = by (int_lt (pos 2147483647) (k.free +ℤ pos n))
  where
    by : (b : Bool) → takes (cond b (word.Refused fault.TooManyPermits) word.Gave) ≡ false
    by true = refl
    by false = refl
gave_takes (Latch c) k i m n = refl

-- an entry of an idle seat
idle_suits : (s : Start) (h : List Entry) (i : ℕ) (step : Step) → waits step ≡ false →
    Suits step (idle_entry s h i step)
idle_suits s h i (Acquire m n) w =
    suits_none (Acquire m n) (idle_entry s h i (Acquire m n)) refl
    (acquired_gives (held_back (counts s h) (first_mode s h) i m) (limit (counts s h) i m) (could (counts s h) i m n))
idle_suits s h i (Try m n) w =
    suits_none (Try m n) (idle_entry s h i (Try m n)) refl
    (tried_gives (try_held_back (counts s h) (first_mode s h) i m) (limit (counts s h) i m) (could (counts s h) i m n))
idle_suits s h i (TryFair m n) w =
    suits_none (TryFair m n) (idle_entry s h i (TryFair m n)) refl
    (fairly_gives (held_back (counts s h) (first_mode s h) i m) (limit (counts s h) i m) (could (counts s h) i m n))
idle_suits s h i (EntryInterrupt m n) w =
    suits_none (EntryInterrupt m n) (idle_entry s h i (EntryInterrupt m n)) refl refl
idle_suits s h i (Give m n) w = record {
  given = λ _. refl;
  taken = λ took_some. (let z : true ≡ false = sym took_some ∙ gave_takes s.header.object (counts s h) i m n in cc);
}
idle_suits s h i (Await c) w = suits_none (Await c) (idle_entry s h i (Await c)) refl (awaits_gives (counts s h) i c)
idle_suits s h i (Signal c) w =
    suits_none (Signal c) (idle_entry s h i (Signal c)) refl
    (signals_gives (counts s h) word.Signal (at_most_one (length (sleepers s h c))) i c refl)
idle_suits s h i (SignalAll c) w =
    suits_none (SignalAll c) (idle_entry s h i (SignalAll c)) refl
    (signals_gives (counts s h) word.SignalAll (length (sleepers s h c)) i c refl)
idle_suits s h i Drain w = suits_none Drain (idle_entry s h i Drain) refl refl
idle_suits s h i Look w = cc
idle_suits s h i Expire w = cc
idle_suits s h i Interrupt w = cc

-- an entry of one who waits
pub waits_gives_none : (step : Step) → waits step ≡ true → given_by step ≡ 0
waits_gives_none (Give m n) w = cc
waits_gives_none _ w = refl

gave_idle : (s : Start) (h : List Entry) (e : Entry) (w : Word) → gives w ≡ true → KnownBy s h e w →
    phase s h e.seat ≡ Idle
gave_idle s h e word.Gave gave k = k.0.idle
gave_idle s h e _ gave k = cc

-- who waits gives nothing
never_gives : (s : Start) (h : List Entry) (i : ℕ) (step : Step) (e : Entry) → waits step ≡ true →
    entry_for s h i step ≡ Ok (Some e) → gives e.word ≡ true → ⊥
never_gives s h i step e w q given =
    let seat = entry_seat s h i step e q in
    let own = subst (λ (j : ℕ). entry_for s h j step ≡ Ok (Some e)) (sym seat) q in
    let idle = gave_idle s h e e.word given (known s h step e own) in
    let fits = subst (λ (p : Phase). suits p step ≡ true) idle (admitted s h e.seat step e own).in_phase in
    let z : not true ≡ true = subst (λ (b : Bool). not b ≡ true) w fits in cc

made_suits : (s : Start) (h : List Entry) (i : ℕ) (step : Step) (e : Entry) →
    entry_for s h i step ≡ Ok (Some e) → Suits step e
made_suits s h i step e q = by (waits step) refl
  where
    by : (b : Bool) → waits step ≡ b → Suits step e
    by true w = record {
      given = λ gave. absurd (never_gives s h i step e w q gave);
      taken = λ _. waits_gives_none step w;
    }
    by false w =
        subst (λ (z : Entry). Suits step z) (sym (idle_made s h i step e w q).is) (idle_suits s h i step w)

-- what could be taken of a semaphore is free
could_free : (o : Object) (k : Counts) (i : ℕ) (m : Mode) (n : ℕ) → is_semaphore o ≡ true →
    could_of o k i m n ≡ true → pos 0 ≤ℤ (k.free -ℤ pos n)
could_free (Semaphore p c) k i S n t u = omega (arith, ints, u)
could_free (Semaphore p c) k i X n t u = cc
could_free (Lock p) k i m n t u = cc
could_free (ReadWrite p) k i m n t u = cc
could_free (Latch c) k i m n t u = cc

took : (step : Step) (e : Entry) (o : Object) (k : Counts) (f : ℤ) → is_semaphore o ≡ true →
    given_by step ≡ 0 → could_of o k e.seat e.mode e.n ≡ true → k.free ≡ f → IsFreeAfter step f (f -ℤ pos e.n)
took step e o k f t none can is =
    let enough = could_free o k e.seat e.mode e.n t can in
    inr (inl (none, (e.n, refl), subst (λ (z : ℤ). pos 0 ≤ℤ (z -ℤ pos e.n)) is enough))

drain_free : (f : ℤ) → (f -ℤ pos (at_least_none f) ≡ f) ⊎ (pos 0 ≤ℤ (f -ℤ pos (at_least_none f)))
drain_free (pos n) = by (int_lt (pos n) (pos 0))
  where
    by : (b : Bool) → (pos n -ℤ pos (cond b 0 n) ≡ pos n) ⊎ (pos 0 ≤ℤ (pos n -ℤ pos (cond b 0 n)))
    by true = let none : pos n -ℤ pos 0 ≡ pos n = omega (arith, ints) in inl none
    by false = let all : pos 0 ≤ℤ (pos n -ℤ pos n) = omega (arith, ints) in inr all
drain_free (negsuc n) = let none : negsuc n -ℤ pos 0 ≡ negsuc n = omega (arith, ints) in inl none

drained_by : (o : Object) (k : Counts) (n : ℕ) → is_semaphore o ≡ true → n ≡ drain_answer_of o k →
    n ≡ at_least_none k.free
drained_by (Semaphore p c) k n t q = q
drained_by (Lock p) k n t q = cc
drained_by (ReadWrite p) k n t q = cc
drained_by (Latch c) k n t q = cc

drained : (step : Step) (f : ℤ) (n : ℕ) → given_by step ≡ 0 → n ≡ at_least_none f → IsFreeAfter step f (f -ℤ pos n)
drained step f n none all =
    ⊎_elim (λ same. inl (ap (λ (m : ℕ). f -ℤ pos m) all ∙ same))
    (λ some. inr (inl (none, (n, refl), subst (λ (m : ℕ). pos 0 ≤ℤ (f -ℤ pos m)) (sym all) some))) (drain_free f)

frees_by : (s : Start) (h : List Entry) (step : Step) (e : Entry) (w : Word) → e.word ≡ w →
    is_semaphore s.header.object ≡ true → IsAllowed w (counts s h) e → Suits step e →
    IsFreeAfter step (free s h) (free_after w e.n (free s h))
frees_by s h step e word.Got is t a suit =
    took step e s.header.object (counts s h) (free s h) t (suit.taken (ap takes is)) a.could refl
frees_by s h step e word.TryGot is t a suit =
    took step e s.header.object (counts s h) (free s h) t (suit.taken (ap takes is)) a.could refl
frees_by s h step e word.Granted is t a suit =
    took step e s.header.object (counts s h) (free s h) t (suit.taken (ap takes is)) a.could refl
frees_by s h step e word.Drained is t a suit =
    drained step (free s h) e.n (suit.taken (ap takes is)) (drained_by s.header.object (counts s h) e.n t a.1)
frees_by s h step e word.Gave is t a suit =
    inr (inr (ap (λ (n : ℕ). free s h +ℤ pos n) (suit.given (ap gives is))))
frees_by s h step e _ is t a suit = inl refl

entry_frees : (b : Base) (h : List Entry) (i : ℕ) (step : Step) (e : Entry) → CanFold b h → i < b.header.seats →
    is_semaphore b.header.object ≡ true → entry_for (based b) h i step ≡ Ok (Some e) →
    IsFreeAfter step (free (based b) h) (free (based b) (e ∷ h))
entry_frees b h i step e can below t q =
    let s : Start = based b in
    let seat = entry_seat s h i step e q in
    let own = subst (λ (j : ℕ). entry_for s h j step ≡ Ok (Some e)) (sym seat) q in
    let waits = waits_from s h (good_waits b can.good) can.legal in
    let known_is = known s h step e own in
    let at : e.seat < s.header.seats = subst (λ (j : ℕ). j < s.header.seats) (sym seat) below in
    frees_by s h step e e.word refl t (allowed s h e waits known_is at) (made_suits s h i step e q)

-- the free permits after a step of a core
pub turn_frees : (v w : CoreView) (i : ℕ) (step : Step) (r : Result Answer Fault) → IsLawfulCore v → IsLawfulCore w →
    i < v.header.seats → IsAnswered v i step r w → is_semaphore v.base.header.object ≡ true →
    IsFreeAfter step (counts_of v).free (counts_of w).free
turn_frees v w i step r kept kept' below answered t =
    subst (λ (b : Base). IsFreeAfter step (free (based v.base) v.entries) (free (based b) w.entries)) l.base
    (subst (λ (es : List Entry). IsFreeAfter step (free (based v.base) v.entries) (free (based v.base) es))
    (sym l.grown) (by r refl))
  where
    l : Left i (point_of v) (point_of w) r
    l =
        left i (point_of v) (point_of w) (beside_of v) (beside_of w) step r
        (answered_shown v w i step r kept kept' answered)

    by : (z : Result Answer Fault) → r ≡ z →
        IsFreeAfter step (free (based v.base) v.entries) (free (based v.base) (made_by z ++ v.entries))
    by (Err f) is = inl refl
    by (Ok Sleep) is = inl refl
    by (Ok (Recorded e name)) is =
        let recorded = subst (λ (z : Result Answer Fault). IsAnswered v i step z w) is answered in
        let made = records v w i step e name recorded in
        entry_frees v.base v.entries i step e kept.lawful.may_fold.can
        (subst (λ (k : Header). i < k.seats) (sym kept.header) below) t made.made

-- The free permits that a pass's own entries leave change as those of the history do.
shifted : (w : Word) (n : ℕ) (a b c d : ℤ) → a +ℤ b ≡ c +ℤ d → free_after w n a +ℤ b ≡ c +ℤ free_after w n d
shifted word.Got n a b c d q = omega (arith, ints, q)
shifted word.TryGot n a b c d q = omega (arith, ints, q)
shifted word.Granted n a b c d q = omega (arith, ints, q)
shifted word.Drained n a b c d q = omega (arith, ints, q)
shifted word.Gave n a b c d q = omega (arith, ints, q)
shifted _ n a b c d q = q

pub both_free : (s t : Start) (es h g : List Entry) →
    free t (es ++ g) +ℤ free s h ≡ free t g +ℤ free s (es ++ h)
both_free s t [] h g = refl
both_free s t (e ∷ es) h g =
    shifted e.word e.n (free t (es ++ g)) (free s h) (free t g) (free s (es ++ h)) (both_free s t es h g)

pub section_frees : (t o n : Ticket) (p q : Point) (seat share : ℕ) (step : Step) (r : Result Answer Fault) →
    Section t o n p q seat share step r →
    free (opening n.lock.header) (first_entries n.logs) +ℤ free (start_at p) p.entries
    ≡ free (opening t.lock.header) (first_entries t.logs) +ℤ free (start_at q) q.entries
section_frees t o n p q seat share step r s =
    let x = sectioned t o n p q seat share step r s in
    let l = left seat p q s.beside s.beside_left step r s.answered in
    let here = free (start_at p) p.entries in
    let own = free (opening t.lock.header) (first_entries t.logs) in
    let mine = mine_grown t o n p q seat share step r s in
    let new = ap (λ (k : LockId). free (opening k.header) (first_entries n.logs)) x.lock
    ∙ ap (λ (es : List Entry). free (opening t.lock.header) es) mine in
    let left_is = ap (λ (b : Base). free (based b) q.entries) (sym l.base)
    ∙ ap (λ (es : List Entry). free (start_at p) es) l.grown in
    ap (λ (z : ℤ). z +ℤ here) new
    ∙ (both_free (start_at p) (opening t.lock.header) (made_by r) p.entries (first_entries t.logs)
    ∙ ap (λ (z : ℤ). own +ℤ z) (sym left_is))

-- a load that moved by the history moved by the pass's own entries
pub moves_own : {A : Type 0} (fit : A → Type 0) (counted : Bool) (amount : A → ℕ) (x y : A) (f g a b : ℤ) →
    g +ℤ a ≡ f +ℤ b → Moves fit counted amount x a y b → Moves fit counted amount x f y g
moves_own fit true amount x y f g a b q m = (
  let n = m.0 in omega (arith, ints, n, q),
  λ same. m.1 (omega (arith, ints, q, same)),
  m.2,
)
moves_own fit false amount x y f g a b q m = m

pub free_kept : (f g a b : ℤ) → g +ℤ a ≡ f +ℤ b → g ≡ f → b ≡ a
free_kept f g a b q same = omega (arith, ints, q, same)

-- what one who took and gave nothing carries is as it was
pub stays : {A : Type 0} (fit : A → Type 0) (counted : Bool) (amount : A → ℕ) (x y : A) (f g : ℤ) → g ≡ f →
    Moves fit counted amount x f y g → counted ≡ true → y ≡ x
stays fit true amount x y f g same m t = m.1 same
stays fit false amount x y f g same m t = cc

pub brings_still : {A : Type 0} (counted : Bool) (amount : A → ℕ) (x y : A) (n : ℕ) →
    (counted ≡ true → y ≡ x) → Brings counted (amount x) n → Brings counted (amount y) n
brings_still true amount x y n same b = ap amount (same refl) ∙ b
brings_still false amount x y n same b = tt

-- and what was fit to lie under the lock still is
pub fit_still : {A : Type 0} (fit : A → Type 0) (counted : Bool) (amount : A → ℕ) (x y : A) (f g : ℤ) →
    Moves fit counted amount x f y g → fit x → fit y
fit_still fit true amount x y f g m k = m.2 k
fit_still fit false amount x y f g m k = m k

pub moves_since : {A : Type 0} (fit : A → Type 0) (counted : Bool) (amount : A → ℕ) (x y z : A) (f g h : ℤ) →
    (counted ≡ true → y ≡ x) → (fit x → fit y) → g ≡ f → Moves fit counted amount y g z h →
    Moves fit counted amount x f z h
moves_since {A} fit true amount x y z f g h same still q m = (
  m.0 ∙ (ap (λ (w : A). pos (amount w) +ℤ g) (same refl) ∙ ap (λ (w : ℤ). pos (amount x) +ℤ w) q),
  λ u. m.1 (u ∙ sym q) ∙ same refl,
  λ k. m.2 (still k),
)
moves_since {A} fit false amount x y z f g h same still q m = λ k. m (still k)
