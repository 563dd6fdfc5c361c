-- The entries of the commonest steps that are not done at once.
use Rattle.std.proofs.Common.{◌≡◌, ℕ, Bool, true, false, cond, eqb, not, ◌&&◌, ◌||◌, List, [], ◌∷◌, Option, Some, None, Ok, refl, ap, ◌∙◌, sym, is_none, is_some, eq-eqb, eqb-true}
use Rattle.std.proofs.lemmas.Bool.{and_parts}
use Rattle.condition_queue.specs.declared.sleeper.Sleeper.{Sleeper}
use Rattle.frame.specs.Below.{refused_as, Arrival, Entry, Mode, Fault, Acquire, Look, could, held_back, is_seat, limit, Counts, first_of, line, place_of, ready_by, InLine, phase_by, sleeps_below, Start, back, ended, entry_for, line_entry, queued_entry}
use Rattle.deciding.proofs.InPhase.{entry_admitted, in_phase_made}
use Rattle.history.specs.declared.entry.End.TheVariants as end
use Rattle.history.specs.declared.entry.Word.TheVariants as word
use Rattle.history.specs.declared.fault.Fault.TheVariants as fault
use Rattle.frame.specs.inner.AtOnce.{IsIdle, Takes, may_acquire, queues}
use Rattle.frame.specs.Core.{CoreView, counts_of, start_of}
use Rattle.frame.specs.inner.Core.{first_mode_of, ready_of}
use Rattle.frame.proofs.AtOnce.{admitted_so, idle_made, made_of}

-- who is idle
pub idle : (v : CoreView) (i : ℕ) (place : Option Arrival) (sleeper : Option Sleeper) →
    (start_of v).header ≡ v.header → place ≡ place_of i (line (start_of v) v.entries) →
    is_some place ≡ false →
    is_some sleeper ≡ sleeps_below (start_of v).header.conditions (start_of v) v.entries i →
    is_some sleeper ≡ false → IsIdle v i
idle v i place sleeper header is none sleeps awake =
    record {
      header = header;
      idle = ap (λ p. phase_by p (sleeps_below (start_of v).header.conditions (start_of v) v.entries i))
          (sym is ∙ nobody place none)
          ∙ ap (phase_by None) (sym sleeps ∙ awake);
    }
  where
    nobody : (o : Option Arrival) → is_some o ≡ false → o ≡ None
    nobody None t = refl
    nobody (Some a) t = cc

-- an acquire that joins the line, and one that takes
word_queued : (a l g c : Bool) (f : Fault) → ((a && not l) && (g || not c)) ≡ true →
    cond g word.Queued (cond l (word.Refused f) (cond c word.Got word.Queued)) ≡ word.Queued
word_queued true false true c f q = refl
word_queued true false false false f q = refl
word_queued true false false true f q = cc
word_queued true true g c f q = cc
word_queued false l g c f q = cc

word_got : (a l g c : Bool) (f : Fault) → ((a && not l) && (g || not c)) ≡ false → a ≡ true → l ≡ false →
    c ≡ true → cond g word.Queued (cond l (word.Refused f) (cond c word.Got word.Queued)) ≡ word.Got
word_got true false false true f q x y z = refl
word_got true false true true f q x y z = cc
word_got true false g false f q x y z = cc
word_got true true g c f q x y z = cc
word_got false l g c f q x y z = cc

pub joins : (v : CoreView) (i : ℕ) (m : Mode) (n : ℕ) → IsIdle v i → queues v i (Acquire m n) m n ≡ true →
    entry_for (start_of v) v.entries i (Acquire m n) ≡ made_of i m n word.Queued
joins v i m n is t =
    let may = (and_parts (may_acquire v i (Acquire m n) m) _ t).0 in
    let admitted = (and_parts (is_none (refused_as v.header (Acquire m n))) _ may).0 in
    idle_made v i (Acquire m n) is (admitted_so v (Acquire m n) true (sym admitted) refl) refl
    ∙ ap (made_of i m n)
    (word_queued (is_none (refused_as v.header (Acquire m n))) (limit (counts_of v) i m)
    (held_back (counts_of v) (first_mode_of v) i m) (could (counts_of v) i m n) fault.TooManyHolds t)

pub passes : (v : CoreView) (i : ℕ) (m : Mode) (n : ℕ) → IsIdle v i → queues v i (Acquire m n) m n ≡ false →
    Takes v i (Acquire m n) m n →
    entry_for (start_of v) v.entries i (Acquire m n) ≡ made_of i m n word.Got
passes v i m n is t takes =
    idle_made v i (Acquire m n) is takes.admitted refl
    ∙ ap (made_of i m n)
    (word_got (is_none (refused_as v.header (Acquire m n))) (limit (counts_of v) i m)
    (held_back (counts_of v) (first_mode_of v) i m) (could (counts_of v) i m n) fault.TooManyHolds t
    (ap is_none takes.admitted) takes.below takes.could)

-- who stands in line, and looks
first_place : (i : ℕ) (a : Arrival) (arrivals : List Arrival) → first_of arrivals ≡ Some a → a.seat ≡ i →
    place_of i arrivals ≡ Some a
first_place i a [] q own = cc
first_place i a (b ∷ rest) q own =
    let same : b ≡ a = cc in
    rw (eq-eqb b.seat i (ap (λ (x : Arrival). x.seat) same ∙ own)) q

looks : (v : CoreView) (i : ℕ) (a : Arrival) (o : Option Entry) → (start_of v).header ≡ v.header →
    place_of i (line (start_of v) v.entries) ≡ Some a →
    o ≡ line_entry (start_of v) v.entries (is_seat (ready_of v) i) i a Look →
    entry_for (start_of v) v.entries i Look ≡ Ok o
looks v i a o header stands made =
    entry_admitted s v.entries i Look refl
    ∙ sym (in_phase_made s v.entries i Look (InLine a) o
    (ap (λ p. phase_by p (sleeps_below s.header.conditions s v.entries i)) stands) refl made)
  where
    s : Start
    s = start_of v

goes_as : (k : Counts) (a : Arrival) (i : ℕ) → is_seat (ready_by k (Some a)) i ≡ true → a.seat ≡ i
goes_as k a i t = by (could k a.seat a.mode a.n) t
  where
    by : (b : Bool) → is_seat (cond b (Some a.seat) None) i ≡ true → a.seat ≡ i
    by true q = eqb-true a.seat i q
    by false q = cc

pub takes_turn : (v : CoreView) (i : ℕ) (a : Arrival) → (start_of v).header ≡ v.header →
    first_of (line (start_of v) v.entries) ≡ Some a → is_seat (ready_of v) i ≡ true → a.back ≡ false →
    entry_for (start_of v) v.entries i Look ≡ Ok (Some (ended i word.Granted a end.None))
takes_turn v i a header first goes new =
    looks v i a (Some (ended i word.Granted a end.None)) header
    (first_place i a (line (start_of v) v.entries) first own)
    (sym (ap (λ b. line_entry (start_of v) v.entries b i a Look) goes
    ∙ ap (λ b. cond b (Some (back (start_of v) v.entries i)) (queued_entry true i a Look)) new))
  where
    own : a.seat ≡ i
    own = goes_as (counts_of v) a i
        (sym (ap (λ o. is_seat (ready_by (counts_of v) o) i) first) ∙ goes)

pub waits_on : (v : CoreView) (i : ℕ) (place : Option Arrival) → (start_of v).header ≡ v.header →
    place ≡ place_of i (line (start_of v) v.entries) → is_some place ≡ true →
    is_seat (ready_of v) i ≡ false → entry_for (start_of v) v.entries i Look ≡ Ok None
waits_on v i None header is some goes = cc
waits_on v i (Some a) header is some goes =
    looks v i a None header (sym is)
    (sym (ap (λ b. line_entry (start_of v) v.entries b i a Look) goes ∙ none a.back))
  where
    none : (b : Bool) → cond b None (queued_entry false i a Look) ≡ None
    none true = refl
    none false = refl

-- whether the first in line is a seat that could take
pub ready_is : (k : Counts) (a : Arrival) (i : ℕ) (own goes : Bool) → own ≡ eqb a.seat i →
    goes ≡ (own && could k i a.mode a.n) → goes ≡ is_seat (ready_by k (Some a)) i
ready_is k a i own goes is q = q ∙ ap (λ b. b && could k i a.mode a.n) is ∙ by (eqb a.seat i) refl
  where
    by : (b : Bool) → eqb a.seat i ≡ b →
        (b && could k i a.mode a.n) ≡ is_seat (cond (could k a.seat a.mode a.n) (Some a.seat) None) i
    by true t =
        ap (λ j. could k j a.mode a.n) (sym (eqb-true a.seat i t))
        ∙ taken (could k a.seat a.mode a.n)
      where
        taken : (c : Bool) → c ≡ is_seat (cond c (Some a.seat) None) i
        taken true = sym t
        taken false = refl
    by false t = other (could k a.seat a.mode a.n)
      where
        other : (c : Bool) → false ≡ is_seat (cond c (Some a.seat) None) i
        other true = sym t
        other false = refl
