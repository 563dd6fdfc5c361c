-- What an entry makes of the counts, and that the counts allow it.
use Rattle.std.proofs.Common.{◌≡◌, ℕ, ◌+◌, ◌-◌, ◌<◌, ◌≤◌, Bool, true, false, not, ◌&&◌, cond, eqb, ltb, List, ◌∷◌, Some, Result, Ok, Err, refl, ap, ◌∙◌, sym, subst, arith, eq-eqb}
use mathlib.Core.Path.{fun_ext}
use Rattle.frame.specs.Below.{Arrival, Entry, Mode, X, S, Word, Fault, Object, Lock, ReadWrite, Semaphore, Latch, given_of, gave_back, counted_down, could, is_seat, Counts, counts, held, holds_after, free, free_after, counted, counted_after, owner, same_mode, line, place_of, is_lock, is_latch, is_semaphore, opening_count, last_sleep, Start, gave, at_least_none, ended, back, most_exclusive}
use Rattle.history.specs.declared.entry.Word.TheVariants as word
use Rattle.history.specs.declared.fault.Fault.TheVariants as fault
use Rattle.history.proofs.Changes.{either_way}
use Rattle.history.proofs.Entering.{Known, KnownBy}
use Rattle.history.proofs.OneWait.{Waits}
use Rattle.history.proofs.Owners.{ready_could}
use Rattle.history.proofs.WhoWaits.{comes_back}
use Rattle.frame.specs.Prelude.{counts_after, IsAllowed, IsTakeable, IsRestorable, let_go_answer, drain_answer_of, hold_limit}

-- the counts behind an entry of a word
abbrev counts_with : Start → List Entry → Entry → Word → Counts
counts_with s h e w =
    record {
      object = s.header.object;
      seats = s.header.seats;
      held = λ i m. cond (eqb e.seat i && same_mode e.mode m)
          (holds_after s.header.object w e.n (held s h i m)) (held s h i m);
      free = free_after w e.n (free s h);
      count = opening_count s.header.object - counted_after w (counted s h);
    }

-- a word that leaves every number
same_counts : (s : Start) (h : List Entry) (e : Entry) (w : Word) →
    ((x : ℕ) → holds_after s.header.object w e.n x ≡ x) → free_after w e.n (free s h) ≡ free s h →
    counted_after w (counted s h) ≡ counted s h → counts_with s h e w ≡ counts s h
same_counts s h e w holds permits count =
    let f : (counts_with s h e w).held ≡ held s h =
    fun_ext (λ i. fun_ext (λ m. either_way _ _ _ (holds (held s h i m)))) in
    let c : opening_count s.header.object - counted_after w (counted s h) ≡ opening_count s.header.object
    - counted s h =
    ap (λ x. opening_count s.header.object - x) count in
    λ i. record {
      object = s.header.object;
      seats = s.header.seats;
      held = f i;
      free = permits i;
      count = c i;
    }

-- a give of anything but a latch, and of a latch
gives_back : (o : Object) (k : Counts) (i : ℕ) (m : Mode) (n : ℕ) → gave o k i m n ≡ word.Gave →
    given_of o k i m n ≡ gave_back k i m n
gives_back (Lock p) k i m n t = refl
gives_back (ReadWrite p) k i m n t = refl
gives_back (Semaphore p c) k i m n t = refl
gives_back (Latch c) k i m n t = cc

counts_down : (o : Object) (k : Counts) (i : ℕ) (m : Mode) (n : ℕ) → is_latch o ≡ true →
    given_of o k i m n ≡ counted_down k
counts_down (Lock p) k i m n t = cc
counts_down (ReadWrite p) k i m n t = cc
counts_down (Semaphore p c) k i m n t = cc
counts_down (Latch c) k i m n t = refl

one_less : (a b : ℕ) → a - (b + 1) ≡ a - b - 1
one_less a b = omega arith

counted_counts : (s : Start) (h : List Entry) (e : Entry) →
    counts_with s h e word.Counted ≡ counted_down (counts s h)
counted_counts s h e =
    let f : (counts_with s h e word.Counted).held ≡ held s h =
    fun_ext (λ i. fun_ext (λ m. either_way _ _ _ refl)) in
    let c = one_less (opening_count s.header.object) (counted s h) in
    λ i. record { object = s.header.object; seats = s.header.seats; held = f i; free = free s h; count = c i }

-- the counts by the mode of the entry
in_mode : (s : Start) (h : List Entry) (e : Entry) (w : Word) (m : Mode) → e.mode ≡ m →
    counts_with s h e w ≡ counts_with s h
    (record { seat = e.seat; word = e.word; mode = m; n = e.n; at = e.at; end = e.end }) w
in_mode s h e w m p =
    ap (λ x. counts_with s h (record {
      seat = e.seat;
      word = e.word;
      mode = x;
      n = e.n;
      at = e.at;
      end = e.end;
    }) w) p

counts_by : (s : Start) (h : List Entry) (e : Entry) (w : Word) → KnownBy s h e w →
    counts_with s h e w ≡ counts_after w (counts s h) e
counts_by s h e word.Got k = refl
counts_by s h e word.TryGot k = refl
counts_by s h e word.Granted k = refl
counts_by s h e word.Gave k = sym (gives_back s.header.object (counts s h) e.seat e.mode e.n k.1)
counts_by s h e word.Counted k =
    counted_counts s h e ∙ sym (counts_down s.header.object (counts s h) e.seat e.mode e.n k.1)
counts_by s h e word.Await k = in_mode s h e word.Await X k.0.mode
counts_by s h e word.Back k = in_mode s h e word.Back X (ap (λ (x : Entry). x.mode) k.4)
counts_by s h e word.Drained k = in_mode s h e word.Drained S (ap (λ (x : Entry). x.mode) k.2)
counts_by s h e word.Queued k = same_counts s h e word.Queued (λ x. refl) refl refl
counts_by s h e word.Missed k = same_counts s h e word.Missed (λ x. refl) refl refl
counts_by s h e word.Left k = same_counts s h e word.Left (λ x. refl) refl refl
counts_by s h e (word.Refused f) k = same_counts s h e (word.Refused f) (λ x. refl) refl refl
counts_by s h e word.Lapse k = same_counts s h e word.Lapse (λ x. refl) refl refl
counts_by s h e word.Signal k = same_counts s h e word.Signal (λ x. refl) refl refl
counts_by s h e word.SignalAll k = same_counts s h e word.SignalAll (λ x. refl) refl refl

pub counts_next : (s : Start) (h : List Entry) (e : Entry) → Known s h e →
    counts s (e ∷ h) ≡ counts_after e.word (counts s h) e
counts_next s h e k = counts_by s h e e.word k

-- that the hooks can do it
counts_allowed : (o : Object) (k : Counts) (i : ℕ) (m : Mode) (n : ℕ) → is_latch o ≡ true →
    gave o k i m n ≡ word.Counted
counts_allowed (Lock p) k i m n t = cc
counts_allowed (ReadWrite p) k i m n t = cc
counts_allowed (Semaphore p c) k i m n t = cc
counts_allowed (Latch c) k i m n t = refl

let_go_allowed : (k : Counts) (i n : ℕ) → is_lock k.object ≡ true → owner k ≡ Some i → k.held i S ≡ 0 →
    n ≡ k.held i X →
    let_go_answer k i ≡ Ok n
let_go_allowed k i n lock owns reads is =
    by (is_lock k.object) (is_seat (owner k) i) (ltb 0 (k.held i S)) lock
    (ap (λ o. is_seat o i) owns ∙ eq-eqb i i refl) (ap (ltb 0) reads)
  where
    by : (a b c : Bool) → a ≡ true → b ≡ true → c ≡ false →
        cond (not a) (Err fault.NotOwner)
        (cond (not b) (Err fault.NotOwner) (cond c (Err fault.HoldsRead) (Ok (k.held i X)))) ≡ Ok n
    by true true false p q r = let ok : ℕ → Result ℕ Fault = λ x. Ok x in ap ok (sym is)
    by true true true p q r = cc
    by true false c p q r = cc
    by false b c p q r = cc

drain_allowed : (o : Object) (k : Counts) → is_semaphore o ≡ true → at_least_none k.free ≡ drain_answer_of o k
drain_allowed (Lock p) k t = cc
drain_allowed (ReadWrite p) k t = cc
drain_allowed (Semaphore p c) k t = refl
drain_allowed (Latch c) k t = cc

most_is : (o : Object) → most_exclusive o ≡ hold_limit o
most_is (Lock p) = refl
most_is (ReadWrite p) = refl
most_is (Semaphore p c) = refl
most_is (Latch c) = refl

granted_allowed : (s : Start) (h : List Entry) (e : Entry) (a : Arrival) (w : Word) →
    e.seat < s.header.seats →
    place_of e.seat (line s h) ≡ Some a → e ≡ ended e.seat w a e.end →
    could (counts s h) e.seat a.mode a.n ≡ true →
    IsTakeable (counts s h) e
granted_allowed s h e a w seat stands is goes =
    let m : a.mode ≡ e.mode = sym (ap (λ (x : Entry). x.mode) is) in
    let n : a.n ≡ e.n = sym (ap (λ (x : Entry). x.n) is) in
    record {
      seat = seat;
      could = subst (λ y. could (counts s h) e.seat e.mode y ≡ true) n
          (subst (λ y. could (counts s h) e.seat y a.n ≡ true) m goes);
    }

-- what a seat saved, and that it holds nothing
record Saves (s : Start) (h : List Entry) (j : ℕ) : Type 0 where
  some : 1 ≤ (last_sleep s h j).holds
  most : (last_sleep s h j).holds ≤ most_exclusive s.header.object
  none_held : held s h j X ≡ 0

back_allowed : (s : Start) (h : List Entry) (e : Entry) (a : Arrival) → Waits s h → e.seat < s.header.seats →
    place_of e.seat (line s h) ≡ Some a → a.back ≡ true → could (counts s h) e.seat a.mode a.n ≡ true →
    e ≡ back s h e.seat → IsRestorable (counts s h) e.seat e.n
back_allowed s h e a v seat stands returns goes is =
    let comes = comes_back s h v e.seat a stands returns in
    let saved =
    subst (λ j. Saves s h j) comes.1
    (record {
      some = comes.0.saved.some;
      most = comes.0.saved.most;
      none_held = comes.0.saved.nothing X;
    }) in
    let n : (last_sleep s h e.seat).holds ≡ e.n = sym (ap (λ (x : Entry). x.n) is) in
    let x : could (counts s h) e.seat X a.n ≡ true =
    subst (λ y. could (counts s h) e.seat y a.n ≡ true) comes.0.mode goes in
    let limit = most_is s.header.object in
    record {
      seat = seat;
      could = subst (λ y. could (counts s h) e.seat X y ≡ true) comes.0.n x;
      none_held = saved.none_held;
      some = let l = saved.some in omega (arith, l, n);
      most = let l = saved.most in omega (arith, l, n, limit);
    }

allowed_by : (s : Start) (h : List Entry) (e : Entry) (w : Word) → Waits s h → e.seat < s.header.seats →
    e.word ≡ w →
    KnownBy s h e w → IsAllowed w (counts s h) e
allowed_by s h e word.Got v seat p k = record { seat = seat; could = k.1 }
allowed_by s h e word.TryGot v seat p k = record { seat = seat; could = k.1 }
allowed_by s h e word.Granted v seat p k =
    granted_allowed s h e k.0 e.word seat k.1.stands k.1.entry (ready_could s h e.seat k.0 k.2 k.1.stands)
allowed_by s h e word.Gave v seat p k = k.1
allowed_by s h e word.Counted v seat p k = counts_allowed s.header.object (counts s h) e.seat e.mode e.n k.1
allowed_by s h e word.Await v seat p k = let_go_allowed (counts s h) e.seat e.n k.0.lock k.0.owner k.1 k.2
allowed_by s h e word.Back v seat p k =
    back_allowed s h e k.0 v seat k.1 k.2 (ready_could s h e.seat k.0 k.3 k.1) k.4
allowed_by s h e word.Drained v seat p k =
    (k.1, ap (λ (x : Entry). x.n) k.2 ∙ drain_allowed s.header.object (counts s h) k.1)
allowed_by s h e word.Queued v seat p k = tt
allowed_by s h e word.Missed v seat p k = tt
allowed_by s h e word.Left v seat p k = tt
allowed_by s h e (word.Refused f) v seat p k = tt
allowed_by s h e word.Lapse v seat p k = tt
allowed_by s h e word.Signal v seat p k = tt
allowed_by s h e word.SignalAll v seat p k = tt

pub allowed : (s : Start) (h : List Entry) (e : Entry) → Waits s h → Known s h e → e.seat < s.header.seats →
    IsAllowed e.word (counts s h) e
allowed s h e v k seat = allowed_by s h e e.word v seat refl k
