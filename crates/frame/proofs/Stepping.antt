-- What stands for a history stands for it with one entry more.
use Rattle.std.proofs.Common.{◌≡◌, ◌≢◌, ◌⊎◌, ⊎_elim, ◌↔◌, ℕ, ◌+◌, ◌-◌, ◌^◌, ◌<◌, ◌≤◌, max, Bool, true, false, List, ◌∷◌, length, get_or, set, Option, Some, Result, Ok, Err, refl, ap, ◌∙◌, sym, subst, arith, le-leb, length-set, get_or-set_same, get_or-set_other, IfSome}
use Rattle.std.proofs.lemmas.Bool.{cases_eq, lt-leb, cases_lt}
use Rattle.frame.specs.Below.{Line, Sleepers, Entry, Fault, Step, entry_for, Header, Base, based, Counts, counts, HistoryView, base_on, or_opening, start_on, MayFold, IsInRange, AreRight, remarked, named, ready, whole_pages, CanFold, owed, was_owed, releases, reserves, IsHistory, JoinedBy, Keeps}
use Rattle.history.specs.declared.fault.Fault.TheVariants as fault
use Rattle.history.proofs.RoomLemmas.{owed_releases}
use Rattle.history.proofs.Entering.{Known, known}
use Rattle.history.proofs.GoodBases.{good_waits}
use Rattle.history.proofs.Marking.{right_recorded, right_slept}
use Rattle.history.proofs.OneWait.{Waits, waits_from}
use Rattle.history.proofs.Owing.{owed_known}
use Rattle.history.proofs.SmallHolds.{exclusive_small, shared_small}
use Rattle.frame.specs.Prelude.{Seat, CoreView, IsInStep, IsNext, IsAdded, with_history, IsAllowed, counts_after, AreCalled, IsSeat, marks_in, no_holds, seat_after, told_in, with_mark}
use Rattle.frame.proofs.Calls.{called_mark, called_next, called_telling, few_calls}
use Rattle.frame.proofs.Counting.{allowed, counts_next}
use Rattle.frame.proofs.Seats.{seat_next, seat_other}
use Rattle.frame.proofs.Telling.{length_telling, marks_behind, marks_untold, table_behind, tabled_mark, tabled_telling, told_behind}

-- the history that a core stands for
pub history_of : {agrees : Counts → Type 0} {k : Header} {kept : HistoryView} {queue : Line}
    {waiters : Sleepers} {table : List Seat} → IsInStep agrees k kept queue waiters table →
    IsHistory (start_on k kept) kept.entries
history_of {k} {kept} s =
    record {
      base = base_on k kept;
      good = s.may_fold.can.good;
      start = refl;
      range = s.may_fold.range;
      legal = s.may_fold.can.legal;
      seated = s.may_fold.can.seated;
    }

-- What is known of an entry that a core is to add, of an object of this header, behind entries on this base.
pub record Next (k : Header) (b : Base) (h : List Entry) (e : Entry) : Type 0 where
  pub same : b.header ≡ k
  pub seat : e.seat < k.seats
  pub known : Known (based b) h e
  pub waits : Waits (based b) h
  pub can : CanFold b (e ∷ h)
  pub owed : owed (based b) (e ∷ h) + releases k.object e ≡ owed (based b) h + reserves k.object e
  pub allowed : IsAllowed e.word (counts (based b) h) e
  pub step : Step
  pub made : entry_for (based b) h e.seat step ≡ Ok (Some e)
  pub counts : counts (based b) (e ∷ h) ≡ counts_after e.word (counts (based b) h) e

pub next : (k : Header) (b : Base) (h : List Entry) (places : ℕ) (told : List Bool) (e : Entry) →
    b.header ≡ k →
    CanFold b h → IsNext (record { header = k; base = b; entries = h; places = places; told = told }) e →
    Next k b h e
next k b h places told e same can is =
    let m = known (based b) h is.step e is.made in
    let v = waits_from (based b) h (good_waits b can.good) can.legal in
    let seat : e.seat < b.header.seats =
    let l = is.seat in let q = ap (λ (x : Header). x.seats) same in omega (arith, l, q) in
    record {
      same = same;
      seat = is.seat;
      known = m;
      waits = v;
      can = record { good = can.good; seated = (seat, can.seated); legal = ((is.step, is.made), can.legal) };
      owed = subst (λ (x : Header). owed (based b) (e ∷ h) + releases x.object e
          ≡ owed (based b) h + reserves x.object e) same (owed_known (based b) e h m v seat);
      allowed = allowed (based b) h e v m seat;
      step = is.step;
      made = is.made;
      counts = counts_next (based b) h e m;
    }

-- the same, where the fields stand for the history and a caller sees it
pub next_seen : {agrees : Counts → Type 0} {queue : Line} {waiters : Sleepers} {table : List Seat}
    (k : Header) (kept : HistoryView) (e : Entry)
    (seen : CoreView) → IsInStep agrees k kept queue waiters table →
    with_history k kept (told_in table) ≡ seen → IsNext seen e →
    Next k (base_on k kept) kept.entries e
next_seen {table} k kept e seen s q is =
    next k (base_on k kept) kept.entries kept.places (told_in table) e s.based s.may_fold.can
    (subst (λ v. IsNext v e) (sym q) is)

-- the table
pub tabled_next : (k : Header) (b : Base) (h : List Entry) (e : Entry) (table : List Seat) →
    length table ≡ k.seats → Next k b h e →
    ((i : ℕ) → i < k.seats → IsSeat (based b) h i (get_or table i no_holds)) → (i : ℕ) → i < k.seats →
    IsSeat (based b) (e ∷ h) i
    (get_or (set table e.seat (seat_after k.object e (get_or table e.seat no_holds))) i no_holds)
tabled_next k b h e table n m all i l =
    ⊎_elim
    (λ (same : e.seat ≡ i).
    subst (λ j. IsSeat (based b) (e ∷ h) j (get_or (set table e.seat x) j no_holds)) same
    (subst (IsSeat (based b) (e ∷ h) e.seat)
    (sym (get_or-set_same table e.seat x no_holds (let s = m.seat in omega (arith, n, s)))) own))
    (λ (ne : e.seat ≢ i).
    subst (IsSeat (based b) (e ∷ h) i) (sym (get_or-set_other table e.seat i x no_holds (λ q. ne (sym q))))
    (seat_other (based b) h e i (get_or table i no_holds) m.waits m.known ne (all i l)))
    (cases_eq e.seat i)
  where
    x : Seat
    x = seat_after k.object e (get_or table e.seat no_holds)

    own : IsSeat (based b) (e ∷ h) e.seat x
    own =
        subst (λ (y : Header). IsSeat (based b) (e ∷ h) e.seat
        (seat_after y.object e (get_or table e.seat no_holds))) m.same
        (seat_next (based b) h e (get_or table e.seat no_holds) m.waits m.known (all e.seat m.seat))

-- the seat of the entry has room for what it will hold
own_next : (k : Header) (b : Base) (h : List Entry) (e : Entry) (x : Seat) → Next k b h e →
    IsSeat (based b) h e.seat x → IsSeat (based b) (e ∷ h) e.seat (seat_after k.object e x)
own_next k b h e x n is =
    subst (λ (y : Header). IsSeat (based b) (e ∷ h) e.seat (seat_after y.object e x)) n.same
    (seat_next (based b) h e x n.waits n.known is)

pub exclusive_next : (k : Header) (b : Base) (h : List Entry) (e : Entry) (x : Seat) → Next k b h e →
    IsSeat (based b) h e.seat x → (seat_after k.object e x).exclusive < 2 ^ 32
exclusive_next k b h e x n is =
    let l = exclusive_small b (e ∷ h) n.can e.seat in
    let q = (own_next k b h e x n is).exclusive in
    omega (arith, l, q)

pub shared_next : (k : Header) (b : Base) (h : List Entry) (e : Entry) (x : Seat) → IsInRange k →
    Next k b h e → length h ≤ k.cap → IsSeat (based b) h e.seat x →
    (seat_after k.object e x).shared < 2 ^ 128
shared_next k b h e x range n short is =
    let l = shared_small b (e ∷ h) n.can (subst IsInRange (sym n.same) range) e.seat n.can.seated.0 in
    let c = range.cap in
    let q = (own_next k b h e x n is).shared in
    omega (arith, l, q, c, short)

-- and for one call more
pub calls_next : {agrees : Counts → Type 0} {queue : Line} {waiters : Sleepers} {table : List Seat}
    (k : Header) (kept : HistoryView) (i : ℕ) → IsInStep agrees k kept queue waiters table → i < k.seats →
    (get_or table i no_holds).calls + 1 < 2 ^ 64
calls_next k kept i s l =
    let same = ap (λ (x : Header). x.seats) s.based in
    let few = few_calls (base_on k kept) kept.entries i s.may_fold.can.good (omega (arith, l, same)) in
    let is = s.called i l in
    let r = s.room in
    let c = s.range.cap in
    let t = s.may_fold.can.good.entries in
    omega (arith, few, is, r, c, t)

-- no more is released than was owed and is reserved
pub within : (k : Header) (b : Base) (h : List Entry) (e : Entry) (was : ℕ) → Next k b h e →
    was ≡ owed (based b) h →
    releases k.object e ≤ was + reserves k.object e
within k b h e was n q = let o = n.owed in omega (arith, o, q)

-- The room that an entry needs, by what was owed before it and is owed behind it.
pub record Needs (k : Header) (b : Base) (h : List Entry) (e : Entry) (was owes : ℕ) : Type 0 where
  pub owed : owes ≡ owed (based b) (e ∷ h)
  pub none : was_owed k.object e ≡ true → (owes + 1) - was ≡ 0

pub needs : (k : Header) (b : Base) (h : List Entry) (e : Entry) (was owes : ℕ) → Next k b h e →
    was ≡ owed (based b) h →
    owes ≡ was + reserves k.object e - releases k.object e → Needs k b h e was owes
needs k b h e was owes n p q =
    let o = n.owed in
    record {
      owed = omega (arith, o, p, q);
      none = λ t.
          let z = owed_releases k.object e.word e.n t in
          let x : reserves k.object e ≡ 0 = z.0 in
          let y : 1 ≤ releases k.object e = z.1 in
          omega (arith, p, q, o, x, y);
    }

-- room was asked for, and refused
not_owed : (k : Header) (b : Base) (h : List Entry) (e : Entry) (was owes : ℕ) → Needs k b h e was owes →
    0 < (owes + 1) - was → was_owed k.object e ≡ false
not_owed k b h e was owes n some = by (was_owed k.object e) refl
  where
    by : (b : Bool) → was_owed k.object e ≡ b → b ≡ false
    by false t = refl
    by true t = let z = n.none t in absurd (omega (arith, z, some))

pub refused : (k : Header) (e : Entry) (f : Fault) (kept kept' : HistoryView) (told : List Bool)
    (was owes needed : ℕ) →
    (base_on k kept).header ≡ k → Needs k (base_on k kept) kept.entries e was owes → kept.cap ≡ k.cap →
    was ≡ kept.owed →
    length kept.entries + was ≤ kept.cap → length kept.entries + was ≤ kept.places →
    needed ≡ (owes + 1) - was →
    ((◌≡◌ {A = Result (Unit {0}) Fault} (Err f) (Err fault.HistoryFull))
    ↔ (kept.cap < length kept.entries + kept.owed + needed)) →
    (f ≡ fault.HistoryFull) ⊎ (f ≡ fault.OutOfMemory) →
    ((◌≡◌ {A = Result (Unit {0}) Fault} (Err f) (Err fault.OutOfMemory))
    → kept.places < length kept.entries + kept.owed + needed) → kept' ≡ kept →
    IsAdded (with_history k kept told) e (Err f) (with_history k kept' told)
refused k e f kept kept' told was owes needed header n cap is within room q full which memory same =
    ⊎_elim no_room no_memory which
  where
    err : Fault → Result (Option ℕ) Fault
    err x = Err x

    P : Fault → Type 0
    P g = IsAdded (with_history k kept told) e (err g) (with_history k kept' told)

    no_room : f ≡ fault.HistoryFull → P f
    no_room p =
        let o = n.owed in
        let most = ap (λ (x : Header). x.cap) header in
        let over = full.0 (ap (λ x. (let r : Result (Unit {0}) Fault = Err x in r)) p) in
        let some : 0 < (owes + 1) - was = omega (arith, over, within, is, q) in
        let here : P fault.HistoryFull = (
          lt-leb _ _ (omega (arith, is, o, over, some, q, cap, most)),
          not_owed k (base_on k kept) kept.entries e was owes n some,
          ap (λ (y : HistoryView). with_history k y told) same,
        ) in
        subst P (sym p) here

    no_memory : f ≡ fault.OutOfMemory → P f
    no_memory p =
        let o = n.owed in
        let most = ap (λ (x : Header). x.cap) header in
        let fits : length kept.entries + kept.owed + needed ≤ kept.cap =
        ⊎_elim
        (λ (over : kept.cap < length kept.entries + kept.owed + needed).
        let z = full.1 over in let d : fault.OutOfMemory ≡ fault.HistoryFull = cc in absurd (cc))
        (λ l. l)
        (cases_lt kept.cap (length kept.entries + kept.owed + needed)) in
        let lacks = memory (ap (λ x. (let r : Result (Unit {0}) Fault = Err x in r)) p) in
        let some : 0 < (owes + 1) - was = omega (arith, lacks, room, is, q) in
        let here : P fault.OutOfMemory = (
          le-leb _ _ (omega (arith, is, o, fits, some, q, cap, most)),
          not_owed k (base_on k kept) kept.entries e was owes n some,
          ap (λ (y : HistoryView). with_history k y told) same,
          omega (arith, is, o, lacks, some, q),
        ) in
        subst P (sym p) here

-- The places of what was asked for are those that the entry takes, with all that is owed.
whole_pages_le : (m n : ℕ) → m ≤ n → whole_pages m ≤ whole_pages n
whole_pages_le m n l = omega (arith, l)

placed : (places places' len was owes needed : ℕ) → needed ≡ (owes + 1) - was →
    (len + was + needed ≤ places → places' ≡ places) → len + was ≤ places →
    places' ≡ max places (whole_pages (len + was + needed)) →
    places' ≡ max places (whole_pages (len + 1 + owes))
placed places places' len was owes needed q stays room is =
    ⊎_elim
    (λ (more : was < owes + 1).
    let same : len + was + needed ≡ len + 1 + owes = omega (arith, q, more) in
    is ∙ ap (λ n. max places (whole_pages n)) same)
    (λ (none : owes + 1 ≤ was).
    let here = stays (omega (arith, q, none, room)) in
    let least = whole_pages_le (len + 1 + owes) (len + was + needed) (omega (arith, none)) in
    by _ _ here is least)
    (cases_lt was (owes + 1))
  where
    by : (n m : ℕ) → places' ≡ places → places' ≡ max places n → m ≤ n → places' ≡ max places m
    by n m here is least = omega (arith, here, is, least)

-- What is known of the history that the entry was added to, room being there.
pub record Grown (k : Header) (e : Entry) (kept new : HistoryView) : Type 0 where
  pub base : new.base ≡ kept.base
  pub entries : new.entries ≡ e ∷ kept.entries
  pub cap : new.cap ≡ kept.cap
  pub owed : new.owed ≡ owed (start_on k kept) (e ∷ kept.entries)
  pub room : length kept.entries + 1 + new.owed ≤ k.cap
  pub places : new.places ≡ max kept.places (whole_pages (length kept.entries + 1 + new.owed))

pub grown : (k : Header) (e : Entry) (kept mid new : HistoryView) (was owes needed : ℕ) →
    owes ≡ owed (start_on k kept) (e ∷ kept.entries) → was ≡ kept.owed → needed ≡ (owes + 1) - was →
    length mid.entries + mid.owed + needed ≤ mid.cap → mid ≡ record kept { places = mid.places } →
    kept.cap ≡ k.cap → new ≡ record mid { entries = e ∷ mid.entries; owed = owes } →
    length kept.entries + was ≤ kept.places →
    (length kept.entries + kept.owed + needed ≤ kept.places → mid ≡ kept) →
    mid.places ≡ max kept.places (whole_pages (length kept.entries + kept.owed + needed)) → Grown k e kept new
grown k e kept mid new was owes needed now is q fits same cap added room stays places =
    let a : length mid.entries ≡ length kept.entries = ap (λ (y : HistoryView). length y.entries) same in
    let b : mid.owed ≡ kept.owed = ap (λ (y : HistoryView). y.owed) same in
    let c : mid.cap ≡ kept.cap = ap (λ (y : HistoryView). y.cap) same in
    let o : new.owed ≡ owes = ap (λ (y : HistoryView). y.owed) added in
    record {
      base = ap (λ (y : HistoryView). y.base) added ∙ ap (λ (y : HistoryView). y.base) same;
      entries = ap (λ (y : HistoryView). y.entries) added
          ∙ ap (λ (y : HistoryView). e ∷ y.entries) same;
      cap = ap (λ (y : HistoryView). y.cap) added ∙ c;
      owed = o ∙ now;
      room = omega (arith, is, q, fits, cap, a, b, c, o);
      places = ap (λ (y : HistoryView). y.places) added
          ∙ placed kept.places mid.places (length kept.entries) kept.owed owes needed
          (q ∙ ap (λ n. (owes + 1) - n) is)
          (λ l. ap (λ (y : HistoryView). y.places) (stays l)) (omega (arith, is, room)) places
          ∙ ap (λ n. max kept.places (whole_pages (length kept.entries + 1 + n))) (sym o);
    }

-- whom it names is one of the seats
pub record Names (k : Header) (kept : HistoryView) (e : Entry) (name : Option ℕ) : Type 0 where
  pub is : name ≡ named (start_on k kept) kept.entries e
  pub below : IfSome name (λ j. j < k.seats)

seated : (name : Option ℕ) (n m : ℕ) → n ≡ m → IfSome name (λ j. j < m) → IfSome name (λ j. j < n)
seated name n m same below = subst (λ x. IfSome name (λ j. j < x)) (sym same) below

pub is_added : (agrees : Counts → Type 0) (k : Header) (e : Entry) (name : Option ℕ) (kept new : HistoryView)
    (queue : Line) (waiters : Sleepers) (table table' : List Seat) →
    IsInStep agrees k kept queue waiters table → Next k (base_on k kept) kept.entries e → Grown k e kept new →
    Names k kept e name → table' ≡ table_behind k.object e name table →
    IsAdded (with_history k kept (told_in table)) e (Ok name) (with_history k new (told_in table'))
is_added agrees k e name kept new queue waiters table table' s m n names is =
    let o = n.owed in
    let fits = n.room in
    let most = ap (λ (x : Header). x.cap) s.based in
    let seat : e.seat < length table = let l = m.seat in let z = s.seats in omega (arith, l, z) in
    let places = n.places ∙ ap (λ m. max kept.places (whole_pages (length kept.entries + 1 + m))) o in (
      le-leb _ _ (omega (arith, fits, o, most)),
      names.is,
      λ j. record {
        header = k;
        base = or_opening k (n.base j);
        entries = n.entries j;
        places = places j;
        told = told_in table';
      },
      told_behind k kept new k.object e name table table' seat
          (seated name (length table) k.seats s.seats names.below) is names.is s.told.stand,
    )

-- all that is kept
pub stands_next : (agrees agrees' : Counts → Type 0)
    (k : Header) (kept kept' : HistoryView) (queue queue' : Line)
    (waiters waiters' : Sleepers) (table table' : List Seat) (e : Entry) (name : Option ℕ) →
    IsInStep agrees k kept queue waiters table → Next k (base_on k kept) kept.entries e →
    agrees' (counts_after e.word (counts (start_on k kept) kept.entries) e) →
    Keeps (start_on k kept) (e ∷ kept.entries) queue' waiters' →
    JoinedBy ((base_on k kept).entries + length kept.entries + 1) queue' →
    Names k kept e name → table' ≡ table_behind k.object e name table → Grown k e kept kept' →
    IsInStep agrees' k kept' queue' waiters' table'
stands_next agrees agrees' k kept kept' queue queue' waiters waiters' table table' e name s n told waiting
    joined names is new =
    record {
      range = s.range;
      began = new.base ∙ s.began ∙ ap Some (sym same);
      based = ap (λ (b : Base). b.header) same ∙ s.based;
      may_fold = subst (λ b. MayFold b kept'.entries) (sym same) (subst (MayFold base) (sym entries) (record {
        range = s.may_fold.range;
        modest = s.may_fold.modest;
        can = n.can;
      }));
      hooks = subst (λ b. agrees' (counts (based b) kept'.entries)) (sym same)
          (subst agrees' (sym n.counts ∙ ap (counts (based base)) (sym entries)) told);
      waiting = subst (λ b. Keeps (based b) kept'.entries queue' waiters') (sym same)
          (subst (λ g. Keeps (based base) g queue' waiters') (sym entries) waiting);
      joins = let t = ap (λ (b : Base). b.entries) same in let l = ap length entries in
          omega (arith, joined, t, l);
      seats = ap length is ∙ length_telling name _ ∙ length-set table e.seat _ ∙ s.seats;
      tabled = λ i l.
          subst (λ b. IsSeat (based b) kept'.entries i (get_or table' i no_holds)) (sym same)
          (subst (λ g. IsSeat (based base) g i (get_or table' i no_holds)) (sym entries)
          (subst (λ t. IsSeat (based base) (e ∷ kept.entries) i (get_or t i no_holds)) (sym is)
          (tabled_telling (based base) (e ∷ kept.entries) k.seats name mid
          (subst (λ m. IfSome name (λ j. j < m))
          (sym (length-set table e.seat _)) below)
          (tabled_next k base kept.entries e table s.seats n s.tabled)
          i l)));
      called = subst (λ b. AreCalled k.seats b kept'.entries table') (sym same)
          (subst (λ g. AreCalled k.seats base g table') (sym entries)
          (subst (AreCalled k.seats base (e ∷ kept.entries)) (sym is)
          (called_telling k.seats base (e ∷ kept.entries) name mid
          (subst (λ m. IfSome name (λ j. j < m)) (sym (length-set table e.seat _)) below)
          (called_next k.seats base kept.entries e k.object table s.seats n.seat s.called))));
      told = subst (λ b. AreRight (based b) kept'.entries (marks_in table')) (sym same)
          (subst (λ g. AreRight (based base) g (marks_in table')) (sym entries)
          (subst (λ t. AreRight (based base) (e ∷ kept.entries) (marks_in t)) (sym is)
          (subst (AreRight (based base) (e ∷ kept.entries))
          (ap (λ w. remarked e w (marks_in table)) (sym names.is)
          ∙ sym (marks_behind k.object e name table seat below))
          (right_recorded (based base) kept.entries n.step (marks_in table) e n.made s.told))));
      cap = new.cap ∙ s.cap;
      owed = new.owed ∙ ap (owed (based base)) (sym entries) ∙ ap (λ b. owed (based b) kept'.entries) (sym
          same);
      room = let l = ap length entries in let r = new.room in omega (arith, l, r);
    }
  where
    base : Base
    base = base_on k kept

    same : base_on k kept' ≡ base_on k kept
    same = ap (or_opening k) new.base

    entries : kept'.entries ≡ e ∷ kept.entries
    entries = new.entries

    mid : List Seat
    mid = set table e.seat (seat_after k.object e (get_or table e.seat no_holds))

    seat : e.seat < length table
    seat = let l = n.seat in let z = s.seats in omega (arith, l, z)

    below : IfSome name (λ j. j < length table)
    below = seated name (length table) k.seats s.seats names.below

-- a seat that isn't ready is told no more
pub stands_untold : (agrees : Counts → Type 0) (k : Header) (kept : HistoryView) (queue : Line)
    (waiters : Sleepers) (table table' : List Seat) (i : ℕ) → IsInStep agrees k kept queue waiters table →
    i < k.seats → (ready (start_on k kept) kept.entries ≡ Some i → ⊥) → table' ≡ with_mark false i table →
    IsInStep agrees k kept queue waiters table'
stands_untold agrees k kept queue waiters table table' i s below waits is =
    subst (IsInStep agrees k kept queue waiters) (sym is) (record {
      range = s.range;
      began = s.began;
      based = s.based;
      may_fold = s.may_fold;
      hooks = s.hooks;
      waiting = s.waiting;
      joins = s.joins;
      seats = length-set table i _ ∙ s.seats;
      tabled = tabled_mark (start_on k kept) kept.entries k.seats false i table
          (let z = s.seats in omega (arith, below, z)) s.tabled;
      called = called_mark k.seats (base_on k kept) kept.entries false i table
          (let z = s.seats in omega (arith, below, z)) s.called;
      told = subst (AreRight (start_on k kept) kept.entries)
          (sym (marks_untold (start_on k kept) kept.entries table i))
          (right_slept (start_on k kept) kept.entries i (marks_in table) waits s.told);
      cap = s.cap;
      owed = s.owed;
      room = s.room;
    })
