-- What the table of seats tells of a history.
use Rattle.std.proofs.Common.{◌≡◌, ◌≢◌, ⊎_elim, ℕ, true, cond, List, [], ◌∷◌, refl, ap, ◌∙◌, sym, eq-eqb}
use Rattle.frame.specs.Below.{Entry, Mode, X, S, Word, Await, Lapse, Object, Base, based, folded, held, holds_after, is_exclusive, same_mode, is_away, phase, last_sleep, sleep_after, Start, LastSleep, sleep_of}
use Rattle.history.proofs.Alike.{Alike, away_alike, phase_alike}
use Rattle.history.proofs.Away.{was_away}
use Rattle.history.proofs.Entering.{Known}
use Rattle.history.proofs.OneWait.{Waits}
use Rattle.history.proofs.SleepLemmas.{held_other, last_sleep_other}
use Rattle.frame.specs.Prelude.{Seat, IsSeat, no_holds, seat_after, sleep_behind}

-- a seat that did nothing yet
pub seat_free : (s : Start) (i : ℕ) → ((m : Mode) → held s [] i m ≡ 0) →
    sleep_of no_holds.sleep ≡ last_sleep s [] i → IsSeat s [] i no_holds
seat_free s i none slept = record { exclusive = sym (none X); shared = sym (none S); sleep = λ t. slept }

-- the holds
exclusive_more : (o : Object) (w : Word) (n : ℕ) (k : Mode) (x y : ℕ) → x ≡ y →
    cond (is_exclusive k) (holds_after o w n x) x ≡ cond (same_mode k X) (holds_after o w n y) y
exclusive_more o w n X x y p = ap (holds_after o w n) p
exclusive_more o w n S x y p = p

shared_more : (o : Object) (w : Word) (n : ℕ) (k : Mode) (x y : ℕ) → x ≡ y →
    cond (is_exclusive k) x (holds_after o w n x) ≡ cond (same_mode k S) (holds_after o w n y) y
shared_more o w n X x y p = p
shared_more o w n S x y p = ap (holds_after o w n) p

-- the last sleep
sleep_more : (word : Word) (e : Entry) (was : LastSleep) →
    sleep_of (sleep_behind word e was) ≡ sleep_after word e (sleep_of was)
sleep_more Await e was = refl
sleep_more Lapse e was = refl
sleep_more _ e was = refl

-- the entry's own seat
own_held : (s : Start) (h : List Entry) (e : Entry) (m : Mode) →
    cond (same_mode e.mode m) (holds_after s.header.object e.word e.n (held s h e.seat m)) (held s h e.seat m)
    ≡ held s (e ∷ h) e.seat m
own_held s h e m = rw (eq-eqb e.seat e.seat refl) refl

pub seat_next : (s : Start) (h : List Entry) (e : Entry) (x : Seat) → Waits s h → Known s h e →
    IsSeat s h e.seat x → IsSeat s (e ∷ h) e.seat (seat_after s.header.object e x)
seat_next s h e x v k is =
    record {
      exclusive = exclusive_more s.header.object e.word e.n e.mode x.exclusive _ is.exclusive
          ∙ own_held s h e X;
      shared = shared_more s.header.object e.word e.n e.mode x.shared _ is.shared ∙ own_held s h e S;
      sleep = λ t. sleep_more e.word e x.sleep
          ∙ ⊎_elim (λ awaits. slept awaits.1)
          (λ away. ap (sleep_after e.word e) (is.sleep away)) (was_away s h e v k e.seat t)
          ∙ own_sleep;
    }
  where
    slept : e.word ≡ Await → sleep_after e.word e (sleep_of x.sleep) ≡ sleep_after e.word e (last_sleep s h
        e.seat)
    slept w = ap (λ u. sleep_after u e (sleep_of x.sleep)) w
        ∙ sym (ap (λ u. sleep_after u e (last_sleep s h e.seat)) w)

    own_sleep : sleep_after e.word e (last_sleep s h e.seat) ≡ last_sleep s (e ∷ h) e.seat
    own_sleep = rw (eq-eqb e.seat e.seat refl) refl

-- any other seat
pub seat_other : (s : Start) (h : List Entry) (e : Entry) (i : ℕ) (x : Seat) → Waits s h → Known s h e →
    e.seat ≢ i → IsSeat s h i x → IsSeat s (e ∷ h) i x
seat_other s h e i x v k ne is =
    record {
      exclusive = is.exclusive ∙ sym (held_other s e h i X ne);
      shared = is.shared ∙ sym (held_other s e h i S ne);
      sleep = λ t.
          ⊎_elim (λ awaits. absurd (ne awaits.0)) (λ away. is.sleep away) (was_away s h e v k i t)
          ∙ sym (last_sleep_other s e h i ne);
    }

-- a fold tells the same of each seat
pub seat_folded : (b : Base) (g : List Entry) (i : ℕ) (x : Seat) →
    Alike b.header (based b) (based (folded b g)) g [] → IsSeat (based b) g i x →
    IsSeat (based (folded b g)) [] i x
seat_folded b g i x same is =
    record {
      exclusive = is.exclusive ∙ ap (λ f. f i X) same.holds;
      shared = is.shared ∙ ap (λ f. f i S) same.holds;
      sleep = λ t.
          (let away : is_away (phase (based b) g i) ≡ true = ap is_away (phase_alike _ _ _ _ _ same i) ∙ t in
          is.sleep away ∙ away_alike _ _ _ _ _ same i away);
    }
