-- What the calls of a latch leave of its count.
use Rattle.std.proofs.Common.{◌≡◌, inl, inr, ℕ, zero, suc, ◌+◌, ◌-◌, ◌<◌, ◌≤◌, eqb, Bool, true, false, not, ◌&&◌, cond, List, [], ◌∷◌, ◌++◌, Option, Some, None, Result, Ok, Err, IfOk, refl, sym, ap, ◌∙◌, subst, arith, eqb-true}
use Rattle.history.specs.declared.entry.End.TheVariants as end
use Rattle.monitor_fronts.specs.Below.{Entry, Mode, S, Word, Fault, Header, Object, Lock, ReadWrite, Semaphore, Latch, Point, Step, Acquire, Give, TryFair, Base, based, could, could_of, held_back, is_reentrant, limit, line_blocks, Counts, counted, counted_after, counts, first_mode, is_latch, opening_count, Start, entry_for, gave, Deed, Before, LockId, AtOnce, IsAcquire, first_step, is_timed, start_at, Shown, IsSound, IsEntered, IsSame, IsMade, with_entry, How, Timed}
use Rattle.history.specs.declared.entry.Word.TheVariants as word
use Rattle.history.specs.declared.fault.Fault.TheVariants as fault
use Rattle.word_lock.proofs.PointLaws.{before_trans}
use Rattle.monitor.proofs.Acquiring.{idle_made}
use Rattle.monitor_fronts.specs.CountingDown.{CountsDown, FallsBy, IsCounted, IsOpen, WasShut, count_at}
use Rattle.monitor_fronts.specs.declared.room.WhenFull.{WhenFull}
use Rattle.monitor_fronts.specs.FrontCalls.{Acquires, Steps}
use Rattle.monitor_fronts.specs.Holding.{gained, with_yes}
use Rattle.monitor_fronts.specs.OwnEntry.{AtOwnEntry}
use Rattle.monitor_fronts.specs.Returned.{done_of, whether_by, whether_of}
use Rattle.monitor_fronts.proofs.Exactly.{first_plain}
use Rattle.monitor_fronts.proofs.MakingRoom.{gives_told, in_room, untimed_told}
use Rattle.monitor_fronts.proofs.OwnEntries.{acquire_gets, at_later, at_made, before_entry, entered_made, got_there, never_refused, place_header}

-- The count never rises: no entry takes a counting back, and a fold keeps the count.
counts_up : (w : Word) (n : ℕ) → n ≤ counted_after w n
counts_up word.Counted n = omega arith
counts_up _ n = omega arith

counted_more : (s : Start) (more h : List Entry) → counted s h ≤ counted s (more ++ h)
counted_more s [] h = omega arith
counted_more s (e ∷ more) h =
    let l = counted_more s more h in
    let k = counts_up e.word (counted s (more ++ h)) in
    omega (arith, l, k)

counted_from : (s : Start) (h : List Entry) → s.counted ≤ counted s h
counted_from s [] = omega arith
counted_from s (e ∷ h) =
    let l = counted_from s h in
    let k = counts_up e.word (counted s h) in
    omega (arith, l, k)

fewer : (o o' c c' : ℕ) → o' ≡ o → c ≤ c' → o' - c' ≤ o - c
fewer o o' c c' same l = omega (arith, same, l)

fewer_folded : (o o' c c' b n : ℕ) → o' ≡ o → b ≡ o - c' → c ≤ c' → o' - b ≤ n → o' - n ≤ o - c
fewer_folded o o' c c' b n same is l k = omega (arith, same, is, l, k)

pub count_falls : (p q : Point) → Before p q → count_at q ≤ count_at p
unfolding Before
count_falls p q (inl grown) =
    let s = start_at p in
    let is : counted (start_at q) q.entries ≡ counted s (grown.1.0 ++ p.entries) =
    ap (λ (b : Base). counted (based b) q.entries) (sym grown.0) ∙ ap (counted s) grown.1.1 in
    fewer (opening_count p.base.header.object) (opening_count q.base.header.object) (counted s p.entries)
    (counted (start_at q) q.entries) (ap (λ (b : Base). opening_count b.header.object) (sym grown.0))
    (subst (λ (n : ℕ). counted s p.entries ≤ n) (sym is) (counted_more s grown.1.0 p.entries))
count_falls p q (inr folds) =
    let s = start_at p in
    fewer_folded (opening_count p.base.header.object) (opening_count q.base.header.object) (counted s p.entries)
    (counted s (folds.more ++ p.entries)) q.base.count (counted (start_at q) q.entries)
    (ap (λ (b : Base). opening_count b.header.object) folds.base) (ap (λ (b : Base). b.count) folds.base)
    (counted_more s folds.more p.entries) (counted_from (start_at q) q.entries)

less_unless : (n o : ℕ) → n ≤ o → n ≤ o - 0
less_unless n o l = omega (arith, l)

pub falls_on : (old new : Shown) → Before old.seen new.seen → FallsBy 0 old new
falls_on old new before = less_unless (count_at new.seen) (count_at old.seen) (count_falls old.seen new.seen before)

-- only a latch has a count
no_count : (o : Object) (n : ℕ) → is_latch o ≡ false → opening_count o - n ≡ 0
no_count (Latch c) n t = cc
no_count (Lock p) n t = omega arith
no_count (ReadWrite p) n t = omega arith
no_count (Semaphore p c) n t = omega arith

-- where the entry that ended a wait was recorded, the count was 0
zero_there : (o : Object) (k : Counts) (i n : ℕ) → could_of o k i S 1 ≡ true → k.count ≡ opening_count o - n →
    k.count ≡ 0
zero_there (Latch c) k i n t is = eqb-true k.count 0 t
zero_there (Lock p) k i n t is = is ∙ no_count (Lock p) n refl
zero_there (ReadWrite p) k i n t is = is ∙ no_count (ReadWrite p) n refl
zero_there (Semaphore p c) k i n t is = is ∙ no_count (Semaphore p c) n refl

at_most_none : (n m : ℕ) → n ≤ m → m ≡ 0 → n ≡ 0
at_most_none n m l is = omega (arith, l, is)

before_new : (p q : Point) (e : Entry) → Before (with_entry e p) q → Before p q
before_new p q e there = before_trans p (with_entry e p) q (before_entry p e) there

await_open : (did : Deed → Type 0) (old new : Shown) (how : How) (r : Result Entry Fault) →
    IsAcquire did old S 1 how r new → whether_of r ≡ Ok true → IsOpen new
await_open did old new how (Ok e) x t =
    let y = acquire_gets did old new S 1 how e x t in
    let p = y.made.front in
    let s = start_at p in
    at_most_none (count_at new.seen) (count_at p)
    (count_falls p new.seen (before_new p new.seen e y.made.there))
    (zero_there p.base.header.object (counts s p.entries) old.seat (counted s p.entries)
    (got_there did old new.seen S 1 y.step e y.made y.got) refl)
await_open did old new how (Err f) x t = absurd (never_refused f true t)

pub awaits_open : (w : WhenFull) (did : Deed → Type 0) (how : How) (old new : Shown) (r : Result Entry Fault) →
    IsSame old new → Acquires w did S 1 how old new r → whether_of r ≡ Ok true → IsOpen new
awaits_open w did how old new r same x =
    in_room (λ (from : Shown). λ (s : Result Entry Fault). whether_of s ≡ Ok true → IsOpen new)
    w _ old new r same (λ p. λ b. λ y. y) (λ f. λ mine. λ b. λ t. absurd (never_refused f true t))
    (λ from. λ s. λ of. λ at. λ one. await_open did from new how s one) x

-- the same of an await of which is told only that it ended
pub untimed_opens : (w : WhenFull) (did : Deed → Type 0) (how : How) (old new : Shown) (r : Result Entry Fault)
    (told : Result (Unit {0}) Fault) → (is_timed how → ⊥) → IsSame old new → Acquires w did S 1 how old new r →
    told ≡ done_of r → IfOk told (λ u. IsOpen new)
untimed_opens w did how old new r (Ok u) untimed same x is =
    awaits_open w did how old new r same x (sym (untimed_told w did S 1 how old new r (Ok u) untimed same x is))
untimed_opens w did how old new r (Err f) untimed same x is = tt

-- Where a wait began, the count was above 0.
latch_holds_none_back : (o : Object) (b : Bool) (m : Mode) (first : Option Mode) → is_latch o ≡ true →
    (b && line_blocks o m first) ≡ false
latch_holds_none_back (Latch c) true m None t = refl
latch_holds_none_back (Latch c) true m (Some f) t = refl
latch_holds_none_back (Latch c) false m first t = refl
latch_holds_none_back (Lock p) b m first t = cc
latch_holds_none_back (ReadWrite p) b m first t = cc
latch_holds_none_back (Semaphore p c) b m first t = cc

above_none : (n : ℕ) → eqb n 0 ≡ false → 0 < n
above_none zero t = cc
above_none (suc n) t = omega arith

latch_shut : (o : Object) (k : Counts) (i : ℕ) → is_latch o ≡ true → could_of o k i S 1 ≡ false → 0 < k.count
latch_shut (Latch c) k i t u = above_none k.count u
latch_shut (Lock p) k i t u = cc
latch_shut (ReadWrite p) k i t u = cc
latch_shut (Semaphore p c) k i t u = cc

why_queued : (b c d : Bool) → b ≡ false →
    cond b word.Queued (cond c (word.Refused fault.TooManyHolds) (cond d word.Got word.Queued)) ≡ word.Queued →
    d ≡ false
why_queued true c d f q = cc
why_queued false true d f q = cc
why_queued false false true f q = cc
why_queued false false false f q = refl

why_missed : (b c d : Bool) → b ≡ false →
    cond b word.Missed (cond c (word.Refused fault.TooManyHolds) (cond d word.Got word.Missed)) ≡ word.Missed →
    d ≡ false
why_missed true c d f q = cc
why_missed false true d f q = cc
why_missed false false true f q = cc
why_missed false false false f q = refl

shut_at : (old new : Shown) (p : Point) → Before old.seen p → Before p new.seen → 0 < count_at p → WasShut old new
shut_at old new p begins there above =
    record {
      place = p;
      begins = begins;
      there = there;
      above = above;
      seen = let l = count_falls old.seen p begins in omega (arith, l, above);
    }

-- a place where an acquire, or one that waits for nobody, was not recorded as got
module _ (did : Deed → Type 0) (old new : Shown) (e : Entry) (latch : is_latch old.lock.header.object ≡ true)
    (same : IsSame old new) (shows : IsSound new) where
  shut_where : (step : Step) → (x : IsMade did old step e new.seen) →
      could (counts (start_at x.front) x.front.entries) old.seat S 1 ≡ false → WasShut old new
  shut_where step x never =
      let p = x.front in
      let is = ap (λ (k : Header). is_latch k.object) (place_header old new (with_entry e p) same shows x.there)
      ∙ latch in
      shut_at old new p x.begins (before_new p new.seen e x.there)
      (latch_shut p.base.header.object (counts (start_at p) p.entries) old.seat is never)

  free_of_line : (step : Step) → (x : IsMade did old step e new.seen) →
      held_back (counts (start_at x.front) x.front.entries) (first_mode (start_at x.front) x.front.entries) old.seat S
      ≡ false
  free_of_line step x =
      let p = x.front in
      let is = ap (λ (k : Header). is_latch k.object) (place_header old new (with_entry e p) same shows x.there)
      ∙ latch in
      latch_holds_none_back p.base.header.object (not (is_reentrant (counts (start_at p) p.entries) old.seat S)) S
      (first_mode (start_at p) p.entries) is

  queued_shut : (x : IsMade did old (Acquire S 1) e new.seen) → e.word ≡ word.Queued → WasShut old new
  queued_shut x q =
      let p = x.front in
      let k = counts (start_at p) p.entries in
      let i = idle_made (start_at p) p.entries old.seat (Acquire S 1) e refl x.made in
      shut_where (Acquire S 1) x (why_queued _ (limit k old.seat S) _ (free_of_line (Acquire S 1) x)
      (sym (ap (λ (z : Entry). z.word) i.is) ∙ q))

  missed_shut : (x : IsMade did old (TryFair S 1) e new.seen) → e.word ≡ word.Missed → WasShut old new
  missed_shut x q =
      let p = x.front in
      let k = counts (start_at p) p.entries in
      let i = idle_made (start_at p) p.entries old.seat (TryFair S 1) e refl x.made in
      shut_where (TryFair S 1) x (why_missed _ (limit k old.seat S) _ (free_of_line (TryFair S 1) x)
      (sym (ap (λ (z : Entry). z.word) i.is) ∙ q))

-- an acquire that ended at once and returned no was given no time
missed_at_once : (how : How) (w : Word) → AtOnce how w → whether_by w end.None ≡ Ok false →
    (w ≡ word.Missed) × (how ≡ Timed 0)
missed_at_once how word.Got a t = cc
missed_at_once how (word.Refused f) a t = cc
missed_at_once how word.Missed a t = (refl, a)
missed_at_once how _ a t = absurd a

await_shut : (did : Deed → Type 0) (old new : Shown) (how : How) (r : Result Entry Fault) →
    is_latch old.lock.header.object ≡ true → IsSame old new → IsSound new → IsAcquire did old S 1 how r new →
    whether_of r ≡ Ok false → WasShut old new
await_shut did old new how (Ok e) latch same shows (inl (step, inl a, x)) t =
    let s = x.made in
    let made = subst (λ (z : Step). entry_for (start_at s.front) s.front.entries old.seat z ≡ Ok (Some e)) a.0
    s.made in
    let q = first_plain (start_at s.front) s.front.entries old.seat how S 1 e made in
    let m = missed_at_once how e.word a.1 (sym (ap (λ (z : Entry). whether_by e.word z.end) q) ∙ t) in
    missed_shut did old new e latch same shows
    (subst (λ (z : Step). IsMade did old z e new.seen) (a.0 ∙ ap (λ (h : How). first_step h S 1) m.1) s)
    m.0
await_shut did old new how (Ok e) latch same shows (inl (step, inr b, x)) t =
    absurd (never_refused fault.Interrupted false (ap (λ (w : Word). whether_by w e.end) (sym b.1) ∙ t))
await_shut did old new how (Ok e) latch same shows (inr x) t =
    queued_shut did old new x.joined latch same shows x.joins x.queued
await_shut did old new how (Err f) latch same shows x t = absurd (never_refused f false t)

-- of a lock that is the same, a latch
as_latch : (old from : Shown) → from.lock ≡ old.lock → is_latch old.lock.header.object ≡ true →
    is_latch from.lock.header.object ≡ true
as_latch old from of latch = ap (λ (l : LockId). is_latch l.header.object) of ∙ latch

pub awaits_shut : (w : WhenFull) (did : Deed → Type 0) (how : How) (old new : Shown) (r : Result Entry Fault) →
    is_latch old.lock.header.object ≡ true → IsSame old new → IsSound new → Acquires w did S 1 how old new r →
    whether_of r ≡ Ok false → WasShut old new
awaits_shut w did how old new r latch same shows x =
    in_room (λ (from : Shown). λ (s : Result Entry Fault). whether_of s ≡ Ok false → WasShut from new)
    w _ old new r same
    (λ p. λ b. λ y. λ t. let z = y t in
    shut_at old new z.place (before_trans old.seen p z.place b z.begins) z.there z.above)
    (λ f. λ mine. λ b. λ t. absurd (never_refused f false t))
    (λ from. λ s. λ of. λ at. λ one. await_shut did from new how s (as_latch old from of latch) at shows one) x

-- A count down takes 1 from the count, unless it is 0.
latch_counts : (o : Object) (k : Counts) (i : ℕ) → is_latch o ≡ true → gave o k i S 1 ≡ word.Counted
latch_counts (Latch c) k i t = refl
latch_counts (Lock p) k i t = cc
latch_counts (ReadWrite p) k i t = cc
latch_counts (Semaphore p c) k i t = cc

one_less : (o c : ℕ) → o - (c + 1) ≡ (o - c) - 1
one_less o c = omega arith

-- where a step was recorded, by whether that is a latch
counted_there : (did : Deed → Type 0) (old new : Shown) (e : Entry) →
    (x : IsMade did old (Give S 1) e new.seen) → is_latch x.front.base.header.object ≡ true →
    IsCounted x.front (with_entry e x.front)
counted_there did old new e x latch =
    let p = x.front in
    let o = p.base.header.object in
    let i = idle_made (start_at p) p.entries old.seat (Give S 1) e refl x.made in
    let word = ap (λ (z : Entry). z.word) i.is ∙ latch_counts o (counts (start_at p) p.entries) old.seat latch in
    let c = counted (start_at p) p.entries in
    ap (λ (w : Word). opening_count o - counted_after w c) word ∙ one_less (opening_count o) c

counts_own : (did : Deed → Type 0) (old new : Shown) (r : Result Entry Fault) →
    is_latch old.lock.header.object ≡ true → IsSame old new → IsSound new → IsEntered did old (Give S 1) r new →
    whether_of r ≡ Ok true → AtOwnEntry IsCounted old new
counts_own did old new (Ok e) latch same shows s t =
    let x = entered_made did old new (Give S 1) e s in
    let p = x.front in
    let is = ap (λ (k : Header). is_latch k.object) (place_header old new (with_entry e p) same shows x.there)
    ∙ latch in
    let i = idle_made (start_at p) p.entries old.seat (Give S 1) e refl x.made in
    at_made did old new (Give S 1) e x (ap (λ (z : Entry). z.seat) i.is) (counted_there did old new e x is)
counts_own did old new (Err f) latch same shows s t = absurd (never_refused f true t)

pub count_downs : (w : WhenFull) (did : Deed → Type 0) (old new : Shown) (r : Result Entry Fault)
    (told : Result (Unit {0}) Fault) → IsSame old new → IsSound new → Steps w did (Give S 1) old new r →
    told ≡ done_of r → CountsDown old (with_yes told) new
count_downs w did old new r told same shows x is = λ latch.
    subst (λ (z : Result Bool Fault). z ≡ Ok true → AtOwnEntry IsCounted old new)
    (sym (gives_told w did S 1 old new r told same x is))
    (in_room (λ (from : Shown). λ (s : Result Entry Fault). whether_of s ≡ Ok true → AtOwnEntry IsCounted from new)
    w _ old new r same (λ p. λ b. λ y. λ t. at_later old new p b (y t))
    (λ f. λ mine. λ b. λ t. absurd (never_refused f true t))
    (λ from. λ s. λ of. λ at. λ one. counts_own did from new s (as_latch old from of latch) at shows one) x)

-- so the count that the pass has seen since is less
gained_most : (told : Result Bool Fault) → gained told ≤ 1
gained_most (Ok true) = omega arith
gained_most (Ok false) = omega arith
gained_most (Err f) = omega arith

less_by : (n m p o g : ℕ) → p ≤ o → n ≤ m → m ≡ p - 1 → g ≤ 1 → n ≤ o - g
less_by n m p o g l k is few = omega (arith, l, k, is, few)

less_than_none : (n p k : ℕ) → n ≤ p → p ≡ 0 → n ≤ k
less_than_none n p k l is = omega (arith, l, is)

less_later : (n p o g : ℕ) → p ≤ o → n ≤ p - g → n ≤ o - g
less_later n p o g l k = omega (arith, l, k)

falls_own : (did : Deed → Type 0) (old new : Shown) (r : Result Entry Fault) → IsEntered did old (Give S 1) r new →
    FallsBy (gained (whether_of r)) old new
falls_own did old new (Ok e) s = by (is_latch p.base.header.object) refl
  where
    x : IsMade did old (Give S 1) e new.seen
    x = entered_made did old new (Give S 1) e s

    p : Point
    p = x.front

    by : (b : Bool) → is_latch p.base.header.object ≡ b → FallsBy (gained (whether_of (Ok e))) old new
    by true latch =
        less_by (count_at new.seen) (count_at (with_entry e p)) (count_at p) (count_at old.seen)
        (gained (whether_of (Ok e))) (count_falls old.seen p x.begins) (count_falls (with_entry e p) new.seen x.there)
        (counted_there did old new e x latch) (gained_most (whether_of (Ok e)))
    by false other =
        less_than_none (count_at new.seen) (count_at p) (count_at old.seen - gained (whether_of (Ok e)))
        (count_falls p new.seen (before_new p new.seen e x.there))
        (no_count p.base.header.object (counted (start_at p) p.entries) other)
falls_own did old new (Err f) s = falls_on old new s.after

pub count_down_falls : (w : WhenFull) (did : Deed → Type 0) (old new : Shown) (r : Result Entry Fault)
    (told : Result (Unit {0}) Fault) → IsSame old new → Steps w did (Give S 1) old new r → told ≡ done_of r →
    FallsBy (gained (with_yes told)) old new
count_down_falls w did old new r told same x is =
    subst (λ (z : Result Bool Fault). FallsBy (gained z) old new) (sym (gives_told w did S 1 old new r told same x is))
    (in_room (λ (from : Shown). λ (s : Result Entry Fault). FallsBy (gained (whether_of s)) from new)
    w _ old new r same
    (λ p. λ b. λ y. less_later (count_at new.seen) (count_at p) (count_at old.seen) (gained (whether_of r))
    (count_falls old.seen p b) y) (λ f. λ mine. λ b. falls_on old new b)
    (λ from. λ s. λ of. λ at. λ one. falls_own did from new s one) x)
