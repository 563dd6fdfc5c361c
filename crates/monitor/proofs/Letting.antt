-- Which steps may let the last exclusive hold of a lock go: a release, and an await.
use Rattle.std.proofs.Common.{◌≡◌, ℕ, ◌<◌, ◌≤◌, ◌&&◌, ◌==◌, Bool, true, false, not, cond, nat_lt, Some, length, List, ◌∷◌, ◌++◌, Result, Ok, Err, refl, sym, ap, ◌∙◌, subst, arith, pos, ◌+ℤ◌, int_lt}
use Rattle.std.proofs.lemmas.Bool.{and_parts}
use Rattle.monitor.specs.Below.{Entry, Mode, X, S, Word, Fault, Object, Lock, ReadWrite, Semaphore, Latch, Answer, Recorded, Sleep, Step, Acquire, Try, TryFair, EntryInterrupt, Give, Await, Signal, SignalAll, Drain, Look, Expire, Interrupt, Base, based, could, held_back, is_seat, limit, try_held_back, Counts, counts, held, holds_after, owner, same_mode, first_mode, in_holds, is_lock, Phase, Idle, phase, suits, waits, sleepers, Start, at_most_one, entry_for, gave, idle_entry, plain, signals, CoreView, IsAnswered, made_by}
use Rattle.history.specs.declared.entry.End.TheVariants as end
use Rattle.history.specs.declared.entry.Word.TheVariants as word
use Rattle.history.specs.declared.fault.Fault.TheVariants as fault
use Rattle.history.proofs.Answering.{entry_seat}
use Rattle.history.proofs.Entering.{KnownBy, admitted, known}
use Rattle.monitor.specs.Prelude.{IsLawfulCore, point_of, LetsGo}
use Rattle.monitor.proofs.Acquiring.{idle_made}
use Rattle.monitor.proofs.InLine.{records}
use Rattle.monitor.proofs.Sections.{Left, answered_shown, left}
use Rattle.monitor.proofs.Beside.{beside_of}

-- the words of the entries by which holds go
abbrev lets : Word → Bool
lets word.Gave = true
lets word.Await = true
lets _ = false

abbrev lets_in : Entry → Bool
lets_in e = lets e.word

-- a release of a lock gives back one hold
one_hold : (o : Object) (n : ℕ) → is_lock o ≡ true → in_holds o n ≡ 1
one_hold (Lock p) n lock = refl
one_hold (ReadWrite p) n lock = refl
one_hold (Semaphore p c) n lock = cc
one_hold (Latch c) n lock = cc

-- What is known of an entry after which its seat holds nothing of a lock, of which it had so much.
record Empties (w : Word) (had : ℕ) : Type 0 where
  goes : lets w ≡ true
  few : w ≡ word.Gave → had ≤ 1

emptied : (o : Object) (w : Word) (n had : ℕ) → is_lock o ≡ true → 0 < had → holds_after o w n had ≡ 0 →
    Empties w had
emptied o word.Gave n had lock some none =
    let one = one_hold o n lock in record { goes = refl; few = λ _. omega (arith, one, none) }
emptied o word.Await n had lock some none = record { goes = refl; few = λ q. cc }
emptied o word.Got n had lock some none = absurd (omega (arith, some, none))
emptied o word.TryGot n had lock some none = absurd (omega (arith, some, none))
emptied o word.Granted n had lock some none = absurd (omega (arith, some, none))
emptied o word.Drained n had lock some none = absurd (omega (arith, some, none))
emptied o word.Back n had lock some none = absurd (omega (arith, some, none))
emptied o _ n had lock some none = absurd (omega (arith, some, none))

acquired_lets : (b c d : Bool) →
    lets (cond b word.Queued (cond c (word.Refused fault.TooManyHolds) (cond d word.Got word.Queued))) ≡ false
acquired_lets true c d = refl
acquired_lets false true d = refl
acquired_lets false false true = refl
acquired_lets false false false = refl

tried_lets : (b c d : Bool) →
    lets (cond b word.Missed (cond c (word.Refused fault.TooManyHolds) (cond d word.TryGot word.Missed))) ≡ false
tried_lets true c d = refl
tried_lets false true d = refl
tried_lets false false true = refl
tried_lets false false false = refl

fairly_lets : (b c d : Bool) →
    lets (cond b word.Missed (cond c (word.Refused fault.TooManyHolds) (cond d word.Got word.Missed))) ≡ false
fairly_lets true c d = refl
fairly_lets false true d = refl
fairly_lets false false true = refl
fairly_lets false false false = refl

signals_lets : (k : Counts) (w : Word) (n i c : ℕ) → lets w ≡ false → lets_in (signals k w n i c) ≡ false
signals_lets k w n i c never = by (not (is_seat (owner k) i))
  where
    by : (b : Bool) → lets_in (cond b (plain i (word.Refused fault.NotOwner) X 1)
        (record { seat = i; word = w; mode = X; n = n; at = c; end = end.None })) ≡ false
    by true = refl
    by false = never

-- a release that lets something go is recorded as one
gave_lets : (o : Object) (k : Counts) (i : ℕ) (m : Mode) (n : ℕ) → lets (gave o k i m n) ≡ true →
    gave o k i m n ≡ word.Gave
gave_lets (Lock p) k i m n = by (nat_lt 0 (k.held i m))
  where
    by : (b : Bool) → lets (cond b word.Gave (word.Refused fault.NotOwner)) ≡ true →
        cond b word.Gave (word.Refused fault.NotOwner) ≡ word.Gave
    by true t = refl
    by false t = cc
gave_lets (ReadWrite p) k i m n = by (nat_lt 0 (k.held i m))
  where
    by : (b : Bool) → lets (cond b word.Gave (word.Refused fault.NotOwner)) ≡ true →
        cond b word.Gave (word.Refused fault.NotOwner) ≡ word.Gave
    by true t = refl
    by false t = cc
gave_lets (Semaphore p c) k i m n = by (int_lt (pos 2147483647) (k.free +ℤ pos n))
  where
    by : (b : Bool) → lets (cond b (word.Refused fault.TooManyPermits) word.Gave) ≡ true →
        cond b (word.Refused fault.TooManyPermits) word.Gave ≡ word.Gave
    by true t = cc
    by false t = refl
gave_lets (Latch c) k i m n = λ t. cc

never : {A : Type 0} (b : Bool) → b ≡ true → b ≡ false → A
never b t f = let z : true ≡ false = sym t ∙ f in cc

-- a step of an idle seat
idle_lets : (s : Start) (h : List Entry) (i : ℕ) (step : Step) → waits step ≡ false →
    lets_in (idle_entry s h i step) ≡ true → same_mode (idle_entry s h i step).mode X ≡ true →
    ((idle_entry s h i step).word ≡ word.Gave → held s h i X ≤ 1) → LetsGo step (held s h i)
idle_lets s h i (Acquire m n) w t x few =
    never _ t
    (acquired_lets (held_back (counts s h) (first_mode s h) i m) (limit (counts s h) i m) (could (counts s h) i m n))
idle_lets s h i (Try m n) w t x few =
    never _ t
    (tried_lets (try_held_back (counts s h) (first_mode s h) i m) (limit (counts s h) i m) (could (counts s h) i m n))
idle_lets s h i (TryFair m n) w t x few =
    never _ t
    (fairly_lets (held_back (counts s h) (first_mode s h) i m) (limit (counts s h) i m) (could (counts s h) i m n))
idle_lets s h i (EntryInterrupt m n) w t x few = never _ t refl
idle_lets s h i (Give X n) w t x few = few (gave_lets s.header.object (counts s h) i X n t)
idle_lets s h i (Give S n) w t x few = never _ x refl
idle_lets s h i (Await c) w t x few = tt
idle_lets s h i (Signal c) w t x few =
    never _ t (signals_lets (counts s h) word.Signal (at_most_one (length (sleepers s h c))) i c refl)
idle_lets s h i (SignalAll c) w t x few =
    never _ t (signals_lets (counts s h) word.SignalAll (length (sleepers s h c)) i c refl)
idle_lets s h i Drain w t x few = never _ t refl
idle_lets s h i Look w t x few = never _ refl w
idle_lets s h i Expire w t x few = never _ refl w
idle_lets s h i Interrupt w t x few = never _ refl w

-- who waits lets nothing go
let_idle : (s : Start) (h : List Entry) (e : Entry) (w : Word) → lets w ≡ true → KnownBy s h e w →
    phase s h e.seat ≡ Idle
let_idle s h e word.Gave t k = k.0.idle
let_idle s h e word.Await t k = k.0.idle
let_idle s h e _ t k = cc

never_lets : (s : Start) (h : List Entry) (i : ℕ) (step : Step) (e : Entry) → waits step ≡ true →
    entry_for s h i step ≡ Ok (Some e) → lets_in e ≡ true → ⊥
never_lets s h i step e w q t =
    let seat = entry_seat s h i step e q in
    let own = subst (λ (j : ℕ). entry_for s h j step ≡ Ok (Some e)) (sym seat) q in
    let idle = let_idle s h e e.word t (known s h step e own) in
    let fits = subst (λ (p : Phase). suits p step ≡ true) idle (admitted s h e.seat step e own).in_phase in
    let z : not true ≡ true = subst (λ (b : Bool). not b ≡ true) w fits in cc

-- an entry that lets the last hold go
module _ (s : Start) (h : List Entry) (i : ℕ) (step : Step) (e : Entry) (lock : is_lock s.header.object ≡ true)
    (q : entry_for s h i step ≡ Ok (Some e)) (some : 0 < held s h i X) where
  made_lets : Empties e.word (held s h i X) → same_mode e.mode X ≡ true → LetsGo step (held s h i)
  made_lets x mode = by (waits step) refl
    where
      by : (b : Bool) → waits step ≡ b → LetsGo step (held s h i)
      by true w = absurd (never_lets s h i step e w q x.goes)
      by false w =
          let is = (idle_made s h i step e w q).is in
          idle_lets s h i step w (subst (λ (z : Entry). lets_in z ≡ true) is x.goes)
          (subst (λ (z : Entry). same_mode z.mode X ≡ true) is mode)
          (subst (λ (z : Entry). z.word ≡ word.Gave → held s h i X ≤ 1) is x.few)

  ends_by : held s (e ∷ h) i X ≡ 0 → LetsGo step (held s h i)
  ends_by gone = by ((e.seat == i) && same_mode e.mode X) refl gone
    where
      by : (b : Bool) → ((e.seat == i) && same_mode e.mode X) ≡ b →
          cond b (holds_after s.header.object e.word e.n (held s h i X)) (held s h i X) ≡ 0 → LetsGo step (held s h i)
      by true is z =
          made_lets (emptied s.header.object e.word e.n (held s h i X) lock some z)
          (and_parts (e.seat == i) (same_mode e.mode X) is).1
      by false is z = absurd (omega (arith, some, z))

-- a step of a core
pub turn_ends : (v w : CoreView) (i : ℕ) (step : Step) (r : Result Answer Fault) → IsLawfulCore v → IsLawfulCore w →
    IsAnswered v i step r w → is_lock v.base.header.object ≡ true → 0 < held (based v.base) v.entries i X →
    held (based w.base) w.entries i X ≡ 0 → LetsGo step (held (based v.base) v.entries i)
turn_ends v w i step r kept kept' answered lock some none =
    by r refl
    (ap (λ (es : List Entry). held (based v.base) es i X) (sym l.grown)
    ∙ (ap (λ (b : Base). held (based b) w.entries i X) l.base ∙ none))
  where
    l : Left i (point_of v) (point_of w) r
    l =
        left i (point_of v) (point_of w) (beside_of v) (beside_of w) step r
        (answered_shown v w i step r kept kept' answered)

    by : (z : Result Answer Fault) → r ≡ z → held (based v.base) (made_by z ++ v.entries) i X ≡ 0 →
        LetsGo step (held (based v.base) v.entries i)
    by (Err f) is gone = absurd (omega (arith, some, gone))
    by (Ok Sleep) is gone = absurd (omega (arith, some, gone))
    by (Ok (Recorded e name)) is gone =
        let recorded = subst (λ (z : Result Answer Fault). IsAnswered v i step z w) is answered in
        ends_by (based v.base) v.entries i step e lock (records v w i step e name recorded).made some gone

-- who waits makes no such step
pub waits_lets_none : (step : Step) (h : Mode → ℕ) → waits step ≡ true → LetsGo step h → ⊥
waits_lets_none (Give m n) h w go = cc
waits_lets_none (Await c) h w go = cc
waits_lets_none _ h w go = go
