-- What is known of an entry of a legal history by its word.
use Rattle.std.proofs.Common.{◌≡◌, ◌⊎◌, inl, inr, ℕ, Bool, true, false, cond, ltb, List, Option, Some, None, Ok, refl, ap, subst, ◌<◌, ◌≤◌, length, arith, eqb-true, ltb-false, leb-false}
use Rattle.std.proofs.lemmas.Option.{same_Some}
use Rattle.std.proofs.lemmas.Bool.{cond_both, or_parts, not-false}
use Rattle.history.specs.Prelude.{Arrival, Entry, Fault, Mode, X, S, Word, Object, Lock, ReadWrite, Semaphore, Latch, Step, Acquire, Try, TryFair, EntryInterrupt, Give, Look, Expire, Interrupt, Await, Signal, SignalAll, Drain, could, limit, held_back, is_seat, try_held_back, Counts, counts, owner, held, free, is_wrong_mode, is_no_condition, is_bad_amount, lacks_mode, is_bad_number, line, first_mode, place_of, ready, is_lock, is_latch, is_semaphore, Phase, Idle, InLine, Sleeping, phase, phase_by, suits, sleepers, Start, entry_for, phase_entry, idle_entry, queued_entry, sleeping_entry, plain, ended, back, lapse, gave, awaits, signals, at_most_one, at_least_none}
use Rattle.history.specs.declared.entry.End.TheVariants as end
use Rattle.history.specs.declared.fault.Fault.TheVariants as fault
use Rattle.history.specs.declared.entry.Word.TheVariants as word

-- What lets a step of a seat through to its entry.
pub record Admitted (s : Start) (h : List Entry) (i : ℕ) (step : Step) (e : Entry) : Type 0 where
  pub mode : is_wrong_mode s.header.object step ≡ false
  pub condition : is_no_condition s.header step ≡ false
  pub amount : is_bad_amount s.header.object step ≡ false
  pub in_phase : suits (phase s h i) step ≡ true
  pub made : phase_entry s h i step (phase s h i) ≡ Some e

pub admitted : (s : Start) (h : List Entry) (i : ℕ) (step : Step) (e : Entry) →
    entry_for s h i step ≡ Ok (Some e) → Admitted s h i step e
admitted s h i step e q =
    record {
      mode = grind (arith, q);
      condition = grind (arith, q);
      amount = grind (arith, q);
      in_phase = grind (arith, q);
      made = grind (arith, q);
    }

pub by_phase : (s : Start) (h : List Entry) (i : ℕ) (step : Step) (e : Entry) →
    entry_for s h i step ≡ Ok (Some e) → phase_entry s h i step (phase s h i) ≡ Some e
by_phase s h i step e q = (admitted s h i step e q).made

-- What is known of an entry that an idle seat asked for with a mode and an amount, or was refused.
pub record Asked (s : Start) (h : List Entry) (e : Entry) : Type 0 where
  pub idle : phase s h e.seat ≡ Idle
  pub mode : lacks_mode s.header.object e.mode ≡ false
  pub amount : is_bad_number s.header.object e.n ≡ false
  pub at : e.at ≡ 0
  pub end : e.end ≡ end.None

-- What is known of an owner's entry on a condition.
pub record OnCondition (s : Start) (h : List Entry) (e : Entry) : Type 0 where
  pub idle : phase s h e.seat ≡ Idle
  pub lock : is_lock s.header.object ≡ true
  pub condition : e.at < s.header.conditions
  pub owner : owner (counts s h) ≡ Some e.seat
  pub mode : e.mode ≡ X
  pub end : e.end ≡ end.None

-- What is known of an entry by which a seat leaves the line, with what it asked for.
pub record LeavesLine (s : Start) (h : List Entry) (e : Entry) (a : Arrival) : Type 0 where
  pub stands : place_of e.seat (line s h) ≡ Some a
  pub queued : a.back ≡ false
  pub entry : e ≡ ended e.seat e.word a e.end

-- What is known of an entry that a step of its seat makes, by its word.
abbrev pub KnownBy : Start → List Entry → Entry → Word → Type 0
KnownBy s h e word.Got =
    Asked s h e × (could (counts s h) e.seat e.mode e.n ≡ true)
    × (held_back (counts s h) (first_mode s h) e.seat e.mode ≡ false)
KnownBy s h e word.TryGot =
    Asked s h e × (could (counts s h) e.seat e.mode e.n ≡ true) × (is_latch s.header.object ≡ false)
    × (try_held_back (counts s h) (first_mode s h) e.seat e.mode ≡ false)
KnownBy s h e word.Queued = Asked s h e
KnownBy s h e word.Missed = Asked s h e
KnownBy s h e (word.Refused f) = Asked s h e
KnownBy s h e word.Gave = Asked s h e × (gave s.header.object (counts s h) e.seat e.mode e.n ≡ word.Gave)
KnownBy s h e word.Counted = Asked s h e × (is_latch s.header.object ≡ true)
KnownBy s h e word.Granted =
    (a : Arrival) × LeavesLine s h e a × (ready s h ≡ Some e.seat) × (e.end ≡ end.None)
KnownBy s h e word.Left =
    (a : Arrival) × LeavesLine s h e a
    × (((e.end ≡ end.Timeout) × (is_seat (ready s h) e.seat ≡ false)) ⊎ (e.end ≡ end.Interrupt))
KnownBy s h e word.Back =
    (a : Arrival) × (place_of e.seat (line s h) ≡ Some a) × (a.back ≡ true) × (ready s h ≡ Some e.seat)
    × (e ≡ back s h e.seat)
KnownBy s h e word.Await =
    OnCondition s h e × (held s h e.seat S ≡ 0) × (e.n ≡ held s h e.seat X)
KnownBy s h e word.Signal = OnCondition s h e × (e.n ≡ at_most_one (length (sleepers s h e.at)))
KnownBy s h e word.SignalAll = OnCondition s h e × (e.n ≡ length (sleepers s h e.at))
KnownBy s h e word.Lapse =
    (phase s h e.seat ≡ Sleeping) × ((e.end ≡ end.Timeout) ⊎ (e.end ≡ end.Interrupt))
    × (e ≡ lapse s h e.seat e.end)
KnownBy s h e word.Drained =
    (phase s h e.seat ≡ Idle) × (is_semaphore s.header.object ≡ true)
    × (e ≡ plain e.seat word.Drained S (at_least_none (free s h)))

abbrev pub Known : Start → List Entry → Entry → Type 0
Known s h e = KnownBy s h e e.word

-- an idle seat's entries
asked : (s : Start) (h : List Entry) (i : ℕ) (w : Word) (m : Mode) (n : ℕ) → phase s h i ≡ Idle →
    lacks_mode s.header.object m ≡ false → is_bad_number s.header.object n ≡ false →
    Asked s h (plain i w m n)
asked s h i w m n idle mode amount =
    record { idle = idle; mode = mode; amount = amount; at = refl; end = refl }

-- a lock is asked for X and 1 where its conditions are
lock_asks : (o : Object) → is_lock o ≡ true → (lacks_mode o X ≡ false) × (is_bad_number o 1 ≡ false)
lock_asks o t = grind arith

taken_known : (s : Start) (h : List Entry) (i : ℕ) (m : Mode) (n : ℕ) (w : Word) →
    Known s h (plain i w m n) → ((v : Word) → Asked s h (plain i v m n)) → (b c d : Bool) →
    held_back (counts s h) (first_mode s h) i m ≡ b → could (counts s h) i m n ≡ d → Known s h
    (plain i (cond b w (cond c (word.Refused fault.TooManyHolds) (cond d word.Got w))) m n)
taken_known s h i m n w k a true c d p q = k
taken_known s h i m n w k a false true d p q = a (word.Refused fault.TooManyHolds)
taken_known s h i m n w k a false false true p q = (a word.Got, q, p)
taken_known s h i m n w k a false false false p q = k

tried_known : (s : Start) (h : List Entry) (i : ℕ) (m : Mode) (n : ℕ) →
    ((w : Word) → Asked s h (plain i w m n)) → is_latch s.header.object ≡ false → (b c d : Bool) →
    try_held_back (counts s h) (first_mode s h) i m ≡ b → could (counts s h) i m n ≡ d → Known s h
    (plain i (cond b word.Missed
    (cond c (word.Refused fault.TooManyHolds) (cond d word.TryGot word.Missed))) m n)
tried_known s h i m n a l true c d p q = a word.Missed
tried_known s h i m n a l false true d p q = a (word.Refused fault.TooManyHolds)
tried_known s h i m n a l false false true p q = (a word.TryGot, q, l, p)
tried_known s h i m n a l false false false p q = a word.Missed

-- the words of a give
abbrev pub GaveWord : Object → Word → Type 0
GaveWord o word.Gave = Unit {0}
GaveWord o (word.Refused f) = Unit {0}
GaveWord o word.Counted = is_latch o ≡ true
GaveWord o _ = ⊥

pub gave_word : (o : Object) (k : Counts) (i : ℕ) (m : Mode) (n : ℕ) → GaveWord o (gave o k i m n)
gave_word (Lock p) k i m n = cond_both _ word.Gave (word.Refused fault.NotOwner) (GaveWord (Lock p))
    (λ t. tt) (λ t. tt)
gave_word (ReadWrite p) k i m n =
    cond_both _ word.Gave (word.Refused fault.NotOwner) (GaveWord (ReadWrite p)) (λ t. tt) (λ t. tt)
gave_word (Semaphore p c) k i m n =
    cond_both _ (word.Refused fault.TooManyPermits) word.Gave (GaveWord (Semaphore p c)) (λ t. tt) (λ t. tt)
gave_word (Latch c) k i m n = refl

gave_known : (s : Start) (h : List Entry) (i : ℕ) (m : Mode) (n : ℕ) →
    ((w : Word) → Asked s h (plain i w m n)) → (w : Word) → GaveWord s.header.object w →
    gave s.header.object (counts s h) i m n ≡ w → Known s h (plain i w m n)
gave_known s h i m n a word.Gave g q = (a word.Gave, q)
gave_known s h i m n a (word.Refused f) g q = a (word.Refused f)
gave_known s h i m n a word.Counted g q = (a word.Counted, g)
gave_known s h i m n a _ g q = absurd g

-- a test of a seat, and what it says
pub seat_is : (o : Option ℕ) (i : ℕ) → is_seat o i ≡ true → o ≡ Some i
seat_is None i t = cc
seat_is (Some j) i t = ap Some (eqb-true j i t)

none_held : (n : ℕ) → ltb 0 n ≡ false → n ≡ 0
none_held n t = let l : n ≤ 0 = ltb-false 0 n t in omega arith

on_condition : (s : Start) (h : List Entry) (i : ℕ) (w : Word) (n at : ℕ) → phase s h i ≡ Idle →
    is_lock s.header.object ≡ true → at < s.header.conditions → is_seat (owner (counts s h)) i ≡ true →
    OnCondition s h (record { seat = i; word = w; mode = X; n = n; at = at; end = end.None })
on_condition s h i w n at idle lock below owns =
    record { idle = idle; lock = lock; condition = below; owner = seat_is _ i owns; mode = refl; end = refl }

refused_known : (s : Start) (h : List Entry) (i : ℕ) (f : Fault) → phase s h i ≡ Idle →
    is_lock s.header.object ≡ true → Known s h (plain i (word.Refused f) X 1)
refused_known s h i f idle lock =
    let asks = lock_asks s.header.object lock in
    asked s h i (word.Refused f) X 1 idle asks.0 asks.1

awaits_known : (s : Start) (h : List Entry) (i c : ℕ) → phase s h i ≡ Idle →
    is_lock s.header.object ≡ true → c < s.header.conditions → Known s h (awaits (counts s h) i c)
awaits_known s h i c idle lock below =
    let no : (f : Fault) → Known s h (plain i (word.Refused f) X 1) = λ f. refused_known s h i f idle lock in
    let e : Entry =
    record { seat = i; word = word.Await; mode = X; n = held s h i X; at = c; end = end.None } in
    cond_both _ _ _ (Known s h) (λ _. no fault.NotOwner) (λ owns.
    cond_both _ _ e (Known s h) (λ _. no fault.HoldsRead) (λ free. (
      on_condition s h i word.Await (held s h i X) c idle lock below (not-false _ owns),
      none_held _ free,
      refl,
    )))

signals_known : (s : Start) (h : List Entry) (w : Word) (n i c : ℕ) → phase s h i ≡ Idle →
    is_lock s.header.object ≡ true →
    (is_seat (owner (counts s h)) i ≡ true →
    Known s h (record { seat = i; word = w; mode = X; n = n; at = c; end = end.None })) →
    Known s h (signals (counts s h) w n i c)
signals_known s h w n i c idle lock signal =
    cond_both _ _ _ (Known s h) (λ _. refused_known s h i fault.NotOwner idle lock) (λ owns.
    signal (not-false _ owns))

idle_known : (s : Start) (h : List Entry) (i : ℕ) (step : Step) → phase s h i ≡ Idle →
    is_wrong_mode s.header.object step ≡ false → is_no_condition s.header step ≡ false →
    is_bad_amount s.header.object step ≡ false → suits Idle step ≡ true → Known s h (idle_entry s h i step)
idle_known s h i (Acquire m n) idle mode condition amount suit =
    taken_known s h i m n word.Queued (asked s h i word.Queued m n idle mode amount)
    (λ v. asked s h i v m n idle mode amount) _ (limit (counts s h) i m) _ refl refl
idle_known s h i (Try m n) idle mode condition amount suit =
    let parts = or_parts (lacks_mode s.header.object m) (is_latch s.header.object) mode in
    tried_known s h i m n (λ w. asked s h i w m n idle parts.0 amount) parts.1 _ (limit (counts s h) i m) _
    refl refl
idle_known s h i (TryFair m n) idle mode condition amount suit =
    taken_known s h i m n word.Missed (asked s h i word.Missed m n idle mode amount)
    (λ v. asked s h i v m n idle mode amount) _ (limit (counts s h) i m) _ refl refl
idle_known s h i (EntryInterrupt m n) idle mode condition amount suit =
    asked s h i (word.Refused fault.Interrupted) m n idle mode amount
idle_known s h i (Give m n) idle mode condition amount suit =
    gave_known s h i m n (λ w. asked s h i w m n idle mode amount) _
    (gave_word s.header.object (counts s h) i m n) refl
idle_known s h i (Await c) idle mode condition amount suit =
    awaits_known s h i c idle (not-false _ mode) (leb-false _ _ condition)
idle_known s h i (Signal c) idle mode condition amount suit =
    let lock = not-false (is_lock s.header.object) mode in
    signals_known s h word.Signal _ i c idle lock (λ owns.
    (on_condition s h i word.Signal _ c idle lock (leb-false _ _ condition) owns, refl))
idle_known s h i (SignalAll c) idle mode condition amount suit =
    let lock = not-false (is_lock s.header.object) mode in
    signals_known s h word.SignalAll _ i c idle lock (λ owns.
    (on_condition s h i word.SignalAll _ c idle lock (leb-false _ _ condition) owns, refl))
idle_known s h i Drain idle mode condition amount suit = (idle, not-false _ mode, refl)
idle_known s h i _ idle mode condition amount suit = cc

-- the entries of one who waits
at_entry : (s : Start) (h : List Entry) (x e : Entry) → Some x ≡ Some e → Known s h x → Known s h e
at_entry s h x e q p = subst (Known s h) (same_Some _ _ q) p

granted_known : (s : Start) (h : List Entry) (i : ℕ) (a : Arrival) → a.back ≡ false →
    place_of i (line s h) ≡ Some a → is_seat (ready s h) i ≡ true →
    Known s h (ended i word.Granted a end.None)
granted_known s h i a queued stands goes =
    (a, record { stands = stands; queued = queued; entry = refl }, seat_is _ i goes, refl)

interrupt_known : (s : Start) (h : List Entry) (i : ℕ) (a : Arrival) → a.back ≡ false →
    place_of i (line s h) ≡ Some a → Known s h (ended i word.Left a end.Interrupt)
interrupt_known s h i a queued stands =
    (a, record { stands = stands; queued = queued; entry = refl }, inr refl)

line_known : (s : Start) (h : List Entry) (i : ℕ) (step : Step) (e : Entry) (a : Arrival)
    (comes goes : Bool) → a.back ≡ comes → is_seat (ready s h) i ≡ goes → place_of i (line s h) ≡ Some a →
    cond comes (cond goes (Some (back s h i)) None) (queued_entry goes i a step) ≡ Some e → Known s h e
line_known s h i step e a true true b g p q = at_entry s h _ e q (a, p, b, seat_is _ i g, refl)
line_known s h i step e a true false b g p q = cc
line_known s h i Look e a false true b g p q = at_entry s h _ e q (granted_known s h i a b p g)
line_known s h i Expire e a false true b g p q = at_entry s h _ e q (granted_known s h i a b p g)
line_known s h i Expire e a false false b g p q =
    at_entry s h _ e q (a, record { stands = p; queued = b; entry = refl }, inl (refl, g))
line_known s h i Interrupt e a false true b g p q = at_entry s h _ e q (interrupt_known s h i a b p)
line_known s h i Interrupt e a false false b g p q = at_entry s h _ e q (interrupt_known s h i a b p)
line_known s h i _ e a false true b g p q = cc
line_known s h i _ e a false false b g p q = cc

sleeping_known : (s : Start) (h : List Entry) (i : ℕ) (step : Step) (e : Entry) → phase s h i ≡ Sleeping →
    sleeping_entry s h i step ≡ Some e → Known s h e
sleeping_known s h i Expire e p q = at_entry s h _ e q (p, inl refl, refl)
sleeping_known s h i Interrupt e p q = at_entry s h _ e q (p, inr refl, refl)
sleeping_known s h i _ e p q = cc

-- a seat in line, by its phase
pub in_line : (o : Option Arrival) (sleeps : Bool) (a : Arrival) → phase_by o sleeps ≡ InLine a → o ≡ Some a
in_line o sleeps a q = grind arith

phase_known : (s : Start) (h : List Entry) (i : ℕ) (step : Step) (e : Entry) (p : Phase) → phase s h i ≡ p →
    Admitted s h i step e → suits p step ≡ true → phase_entry s h i step p ≡ Some e → Known s h e
phase_known s h i step e Idle is a suit q =
    at_entry s h _ e q (idle_known s h i step is a.mode a.condition a.amount suit)
phase_known s h i step e (InLine b) is a suit q =
    line_known s h i step e b b.back (is_seat (ready s h) i) refl refl (in_line _ _ b is) q
phase_known s h i step e Sleeping is a suit q = sleeping_known s h i step e is q

-- each entry that a step of its seat makes is known by its word
pub known : (s : Start) (h : List Entry) (step : Step) (e : Entry) →
    entry_for s h e.seat step ≡ Ok (Some e) → Known s h e
known s h step e q =
    let a = admitted s h e.seat step e q in
    phase_known s h e.seat step e (phase s h e.seat) refl a a.in_phase a.made
