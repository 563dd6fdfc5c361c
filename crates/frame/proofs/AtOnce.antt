-- An entry that moves nobody, while nobody stands in line.
use Rattle.std.proofs.Common.{◌≡◌, ◌⊎◌, inl, inr, ℕ, ◌+◌, Bool, true, false, cond, eqb, not, ◌&&◌, List, [], ◌∷◌, length, Option, Some, None, Result, Ok, refl, ap, ◌∙◌, sym, subst, arith, is_none, is_some, IfSome, int_lt, ℤ, pos, ◌+ℤ◌, eqb-true}
use Rattle.std.proofs.Math.Bool.{and-false}
use Rattle.frame.specs.Below.{Line, JoinedBy, Keeps, line_behind, Sleepers, asleep_on, available, refused_as, Arrival, Entry, Mode, Word, Fault, Header, Object, Recorded, Semaphore, Policy, Step, Acquire, Try, TryFair, Give, held_back, is_reentrant, Counts, counts, HistoryView, start_on, max_amount, first_mode, first_of, line, mode_of, place_of, named_by, ready, ready_by, is_semaphore, is_strict, Idle, phase_by, waits, sleepers, sleepers_after, sleeps_below, Start, acquired, entry_for, gave, idle_entry, plain, tried, tried_fairly}
use Rattle.condition_queue.specs.declared.sleeper.Sleeper.{Sleeper}
use Rattle.condition_queue.proofs.Movable.{keeps_next, line_next}
use Rattle.deciding.proofs.InPhase.{entry_admitted, in_phase_made}
use Rattle.history.specs.declared.entry.Word.TheVariants as word
use Rattle.history.specs.declared.fault.Fault.TheVariants as fault
use Rattle.frame.specs.Prelude.{Gives, IsAtOnce, entry_at_once, CoreView, counts_of, start_of, IsAdded, IsStepped}
use Rattle.frame.specs.inner.AtOnce.{IsAlone, IsIdle, Takes, moves_nobody}
use Rattle.frame.proofs.Recording.{entered, stepped}
use Rattle.frame.proofs.Stepping.{Names}

-- who waits, behind such an entry
line_stays : (w : Word) (e : Entry) (arrivals : List Arrival) (seats : List ℕ) → moves_nobody w ≡ true →
    line_behind w e arrivals seats ≡ arrivals
line_stays word.Got e arrivals seats t = refl
line_stays word.TryGot e arrivals seats t = refl
line_stays word.Gave e arrivals seats t = refl
line_stays word.Queued e arrivals seats t = cc
line_stays word.Granted e arrivals seats t = cc
line_stays word.Missed e arrivals seats t = cc
line_stays word.Left e arrivals seats t = cc
line_stays (word.Refused f) e arrivals seats t = cc
line_stays word.Await e arrivals seats t = cc
line_stays word.Lapse e arrivals seats t = cc
line_stays word.Signal e arrivals seats t = cc
line_stays word.SignalAll e arrivals seats t = cc
line_stays word.Back e arrivals seats t = cc
line_stays word.Counted e arrivals seats t = cc
line_stays word.Drained e arrivals seats t = cc

sleepers_stay : (w : Word) (i n : ℕ) (seats : List ℕ) → moves_nobody w ≡ true →
    sleepers_after w i n seats ≡ seats
sleepers_stay word.Got i n seats t = refl
sleepers_stay word.TryGot i n seats t = refl
sleepers_stay word.Gave i n seats t = refl
sleepers_stay word.Queued i n seats t = cc
sleepers_stay word.Granted i n seats t = cc
sleepers_stay word.Missed i n seats t = cc
sleepers_stay word.Left i n seats t = cc
sleepers_stay (word.Refused f) i n seats t = cc
sleepers_stay word.Await i n seats t = cc
sleepers_stay word.Lapse i n seats t = cc
sleepers_stay word.Signal i n seats t = cc
sleepers_stay word.SignalAll i n seats t = cc
sleepers_stay word.Back i n seats t = cc
sleepers_stay word.Counted i n seats t = cc
sleepers_stay word.Drained i n seats t = cc

either : {A : Type 0} (b : Bool) (x y : A) → x ≡ y → y ≡ cond b x y
either true x y q = sym q
either false x y q = refl

pub keeps_still : (s : Start) (h : List Entry) (e : Entry) (queue : Line) (waiters : Sleepers) →
    Keeps s h queue waiters → moves_nobody e.word ≡ true → Keeps s (e ∷ h) queue waiters
keeps_still s h e queue waiters kept t =
    keeps_next s h e queue queue waiters waiters kept
    (sym (line_stays e.word e queue.arrivals (asleep_on waiters e.at) t))
    (λ c. either (eqb e.at c) (sleepers_after e.word e.seat e.n (asleep_on waiters c)) (asleep_on waiters c)
    (sleepers_stay e.word e.seat e.n (asleep_on waiters c) t))
    refl refl refl

pub joined_still : (n : ℕ) (queue : Line) → JoinedBy n queue → JoinedBy (n + 1) queue
joined_still n queue j = omega (arith, j)

-- whom it names
pub names_nobody : (k : Header) (kept : HistoryView) (e : Entry) → moves_nobody e.word ≡ true →
    line (start_on k kept) kept.entries ≡ [] → Names k kept e None
names_nobody k kept e t empty =
    record { is = sym (ap (λ o. named_by before o e.seat) none); below = tt }
  where
    s : Start
    s = start_on k kept

    h : List Entry
    h = kept.entries

    before : Option ℕ
    before = ready s h

    still : line s (e ∷ h) ≡ []
    still = line_next s h e ∙ line_stays e.word e (line s h) (sleepers s h e.at) t ∙ empty

    none : ready s (e ∷ h) ≡ None
    none = ap (λ l. ready_by (counts s (e ∷ h)) (first_of l)) still

-- who is idle, while nobody stands in line
none_stands : (arrivals : List Arrival) → eqb (length arrivals) 0 ≡ true → arrivals ≡ []
none_stands [] t = refl
none_stands (a ∷ rest) t = absurd (omega (arith, eqb-true (length (a ∷ rest)) 0 t))

pub alone : (v : CoreView) (i : ℕ) (arrivals : List Arrival) (sleeper : Option Sleeper) →
    (start_of v).header ≡ v.header → arrivals ≡ line (start_of v) v.entries →
    eqb (length arrivals) 0 ≡ true →
    is_some sleeper ≡ sleeps_below (start_of v).header.conditions (start_of v) v.entries i →
    is_some sleeper ≡ false → IsAlone v i
alone v i arrivals sleeper header is none sleeps wakes =
    let empty : line (start_of v) v.entries ≡ [] = sym is ∙ none_stands arrivals none in
    let awake = sym sleeps ∙ wakes in
    record {
      header = header;
      empty = empty;
      idle = ap (λ l. phase_by (place_of i l)
          (sleeps_below (start_of v).header.conditions (start_of v) v.entries i)) empty
          ∙ ap (phase_by None) awake;
    }

idle_of : (v : CoreView) (i : ℕ) → IsAlone v i → IsIdle v i
idle_of v i is = record { header = is.header; idle = is.idle }

-- the entry of an idle seat's step that the object has
pub idle_made : (v : CoreView) (i : ℕ) (step : Step) → IsIdle v i →
    refused_as v.header step ≡ None → waits step ≡ false →
    entry_for (start_of v) v.entries i step ≡ Ok (Some (idle_entry (start_of v) v.entries i step))
idle_made v i step is admitted idle =
    entry_admitted s v.entries i step (ap (λ (k : Header). refused_as k step) is.header ∙ admitted)
    ∙ sym (in_phase_made s v.entries i step Idle (Some (idle_entry s v.entries i step)) is.idle
    (ap not idle) refl)
  where
    s : Start
    s = start_of v

abbrev pub made_of : ℕ → Mode → ℕ → Word → Result (Option Entry) Fault
made_of i m n w = Ok (Some (plain i w m n))

-- what an acquire, a try and a try in fair order make, where nobody holds them back
unheld : (k : Counts) (i : ℕ) (m : Mode) → held_back k None i m ≡ false
unheld k i m = and-false (not (is_reentrant k i m))

word_taken : (a b c : Bool) (w x y : Word) (f : Fault) → a ≡ false → b ≡ false → c ≡ true →
    cond a x (cond b (word.Refused f) (cond c w y)) ≡ w
word_taken false false true w x y f p q r = refl
word_taken true b c w x y f p q r = cc
word_taken false true c w x y f p q r = cc
word_taken false false false w x y f p q r = cc

nobody_first : (v : CoreView) (i : ℕ) → IsAlone v i → first_mode (start_of v) v.entries ≡ None
nobody_first v i is = ap (λ l. mode_of (first_of l)) is.empty

-- and their entries
acquires_so : (v : CoreView) (i : ℕ) (m : Mode) (n : ℕ) → IsAlone v i → Takes v i (Acquire m n) m n →
    entry_for (start_of v) v.entries i (Acquire m n) ≡ made_of i m n word.Got
acquires_so v i m n is t =
    idle_made v i (Acquire m n) (idle_of v i is) t.admitted refl
    ∙ ap (made_of i m n)
    (ap (λ first. acquired (counts_of v) first i m n) (nobody_first v i is)
    ∙ word_taken _ _ _ word.Got word.Queued word.Queued fault.TooManyHolds (unheld (counts_of v) i m) t.below
    t.could)

fairly_so : (v : CoreView) (i : ℕ) (m : Mode) (n : ℕ) → IsAlone v i → Takes v i (TryFair m n) m n →
    entry_for (start_of v) v.entries i (TryFair m n) ≡ made_of i m n word.Got
fairly_so v i m n is t =
    idle_made v i (TryFair m n) (idle_of v i is) t.admitted refl
    ∙ ap (made_of i m n)
    (ap (λ first. tried_fairly (counts_of v) first i m n) (nobody_first v i is)
    ∙ word_taken _ _ _ word.Got word.Missed word.Missed fault.TooManyHolds (unheld (counts_of v) i m) t.below
    t.could)

tries_so : (v : CoreView) (i : ℕ) (m : Mode) (n : ℕ) → IsAlone v i → Takes v i (Try m n) m n →
    entry_for (start_of v) v.entries i (Try m n) ≡ made_of i m n word.TryGot
tries_so v i m n is t =
    idle_made v i (Try m n) (idle_of v i is) t.admitted refl
    ∙ ap (made_of i m n)
    (ap (λ first. tried (counts_of v) first i m n) (nobody_first v i is)
    ∙ word_taken _ _ _ word.TryGot word.Missed word.Missed fault.TooManyHolds
    (ap (λ b. is_strict (counts_of v).object && b) (unheld (counts_of v) i m)
    ∙ and-false (is_strict (counts_of v).object)) t.below t.could)

pub gives_so : (v : CoreView) (i : ℕ) (m : Mode) (n : ℕ) → IsIdle v i → Gives v i (Give m n) m n →
    entry_for (start_of v) v.entries i (Give m n) ≡ made_of i m n word.Gave
gives_so v i m n is t =
    idle_made v i (Give m n) is t.admitted refl
    ∙ ap (made_of i m n) (ap (λ (k : Header). gave k.object (counts_of v) i m n) is.header ∙ t.gives)

-- An entry of an idle seat's step, by what the step is.
pub record IsMade (v : CoreView) (i : ℕ) (step : Step) (e : Entry) : Type 0 where
  pub entry : e ≡ entry_at_once i step
  pub is : entry_for (start_of v) v.entries i step ≡ Ok (Some e)
  pub nobody : moves_nobody e.word ≡ true

made_as : (v : CoreView) (i : ℕ) (step was : Step) (e : Entry) (w : Word) (m : Mode) (n : ℕ) → step ≡ was →
    e ≡ plain i w m n → entry_at_once i was ≡ plain i w m n → moves_nobody w ≡ true →
    entry_for (start_of v) v.entries i was ≡ made_of i m n w → IsMade v i step e
made_as v i step was e w m n is q shown moves made =
    record {
      entry = q ∙ (sym shown ∙ sym (ap (entry_at_once i) is));
      is = subst (λ x. entry_for (start_of v) v.entries i x ≡ Ok (Some e)) (sym is)
          (subst (λ y. entry_for (start_of v) v.entries i was ≡ Ok (Some y)) (sym q) made);
      nobody = ap (λ (x : Entry). moves_nobody x.word) q ∙ moves;
    }

-- an acquire and a try in fair order make the same entry
pub acquires : (v : CoreView) (i : ℕ) (step : Step) (e : Entry) (m : Mode) (n : ℕ) →
    (step ≡ Acquire m n) ⊎ (step ≡ TryFair m n) → e ≡ plain i word.Got m n → IsAlone v i → Takes v i step m n →
    IsMade v i step e
acquires v i step e m n (inl is) q alone t =
    made_as v i step (Acquire m n) e word.Got m n is q refl refl
    (acquires_so v i m n alone (subst (λ x. Takes v i x m n) is t))
acquires v i step e m n (inr is) q alone t =
    made_as v i step (TryFair m n) e word.Got m n is q refl refl
    (fairly_so v i m n alone (subst (λ x. Takes v i x m n) is t))

pub tries : (v : CoreView) (i : ℕ) (step : Step) (e : Entry) (m : Mode) (n : ℕ) → step ≡ Try m n →
    e ≡ plain i word.TryGot m n → IsAlone v i → Takes v i step m n → IsMade v i step e
tries v i step e m n is q alone t =
    made_as v i step (Try m n) e word.TryGot m n is q refl refl
    (tries_so v i m n alone (subst (λ x. Takes v i x m n) is t))

pub releases : (v : CoreView) (i : ℕ) (step : Step) (e : Entry) (m : Mode) (n : ℕ) → step ≡ Give m n →
    e ≡ plain i word.Gave m n → IsAlone v i → Gives v i step m n → IsMade v i step e
releases v i step e m n is q alone t =
    made_as v i step (Give m n) e word.Gave m n is q refl refl
    (gives_so v i m n (idle_of v i alone) (subst (λ x. Gives v i x m n) is t))

-- an entry that was added
pub at_once : (v new : CoreView) (i : ℕ) (step : Step) (e : Entry) (r : Option Entry) → IsMade v i step e →
    IfSome r (λ it. (it ≡ e) × IsAdded v e (Ok None) new) → IfSome r (λ it. IsAtOnce v i step it new)
at_once v new i step e None made is = tt
at_once v new i step e (Some it) made is =
    subst (λ x. IsAtOnce v i step x new) (sym is.0) (record { is = made.entry; made = made.is; added = is.1 })

-- so its step was answered
pub stepped_alone : (v new : CoreView) (i : ℕ) (step : Step) (e : Entry) → IsAtOnce v i step e new →
    IsStepped v i step (Ok (Recorded e None)) new
stepped_alone v new i step e is =
    stepped v new i step e (Ok (Recorded e None)) is.made (entered v new e None is.added tt)

-- permits that may be given back
pub gives_permits : (v : CoreView) (i : ℕ) (m : Mode) (n : ℕ) (p : Policy) (permits free : ℤ) (few : Bool) →
    v.header.object ≡ Semaphore p permits → (start_of v).header ≡ v.header →
    free ≡ available (start_of v) v.entries → few ≡ not (int_lt (pos max_amount) (free +ℤ pos n)) →
    few ≡ true → gave v.header.object (counts_of v) i m n ≡ word.Gave
gives_permits v i m n p permits free few is same has within t =
    ap (λ o. gave o (counts_of v) i m n) is
    ∙ ap (λ b. cond b (word.Refused fault.TooManyPermits) word.Gave)
    (ap (λ z. int_lt (pos max_amount) (z +ℤ pos n)) (sym all) ∙ fits _ (sym within ∙ t))
  where
    all : free ≡ (counts_of v).free
    all = has ∙ ap (λ (o : Object). cond (is_semaphore o) (counts_of v).free (pos 0))
        (ap (λ (k : Header). k.object) same ∙ is)

    fits : (b : Bool) → not b ≡ true → b ≡ false
    fits true q = cc
    fits false q = refl

-- a step that the object has
pub admitted_so : (v : CoreView) (step : Step) (b : Bool) → b ≡ is_none (refused_as v.header step) →
    b ≡ true → refused_as v.header step ≡ None
admitted_so v step b is t = by (refused_as v.header step) (sym is ∙ t)
  where
    by : (o : Option Fault) → is_none o ≡ true → o ≡ None
    by None q = refl
    by (Some f) q = cc
