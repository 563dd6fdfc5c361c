-- What the calls of a semaphore leave of the permits: of those that the pass has, and of those that are free.
use Rattle.std.proofs.Common.{◌≡◌, ◌⊎◌, inl, inr, ℕ, Bool, true, false, cond, List, [], Some, Result, Ok, Err, refl, sym, ap, ◌∙◌, subst, arith, ℤ, pos, ◌+ℤ◌, ◌-ℤ◌, ◌≤ℤ◌, int_le, int_lt}
use Rattle.std.proofs.lemmas.Int.{ints}
use Rattle.monitor_fronts.specs.Below.{MOST_AMOUNT, Entry, S, Word, Fault, Header, Object, Lock, ReadWrite, Semaphore, Latch, Point, Step, Drain, EntryInterrupt, Give, Try, could, could_of, limit, try_held_back, Counts, counts, free, free_after, first_mode, is_semaphore, opening, at_least_none, ended, entry_for, gave, plain, Deed, Before, LockId, AtOnce, EndsAtOnce, IsAcquire, IsAtOnce, IsEndFor, is_timed, start_at, free_of, Shown, IsSound, IsEntered, IsSame, asking, with_entry, How}
use Rattle.history.specs.declared.entry.End.TheVariants as end
use Rattle.history.specs.declared.entry.Word.TheVariants as word
use Rattle.history.specs.declared.fault.Fault.TheVariants as fault
use Rattle.monitor.specs.declared.machine.Request.TheVariants as request
use Rattle.monitor.proofs.Acquiring.{idle_made}
use Rattle.monitor_fronts.specs.Room.{IsCallIn, IsEnteredIn, at_point}
use Rattle.monitor_fronts.specs.declared.room.WhenFull.{WhenFull}
use Rattle.monitor_fronts.specs.FrontCalls.{Acquires, Steps}
use Rattle.monitor_fronts.specs.Holding.{with_yes}
use Rattle.monitor_fronts.specs.OwnEntry.{AtOwnEntry}
use Rattle.monitor_fronts.specs.Permits.{DrainsFree, DrainsPermits, GivesFree, GivesPermits, IsDrained, IsGiven, IsTaken, TakesFree, TakesPermits, free_at, if_ok, if_yes}
use Rattle.monitor_fronts.specs.Returned.{done_of, is_done, number_of, whether_of}
use Rattle.monitor_fronts.proofs.Exactly.{first_plain, timed, tried_words}
use Rattle.monitor_fronts.proofs.MakingRoom.{gives_told, in_room, untimed_told}
use Rattle.monitor_fronts.proofs.OwnEntries.{Gets, acquire_gets, at_later, at_made, entered_made, gets, got_there, never_refused, place_header, try_gets}

-- a call of a semaphore: an acquire, a try or a release of so many permits
pub data PermitCall : Type 0 where
  Acquiring : (n : ℕ) (how : How) → PermitCall
  Trying : (n : ℕ) → PermitCall
  Releasing : (n : ℕ) → PermitCall

abbrev pub permit_call : (Deed → Type 0) → PermitCall → WhenFull → Shown → Result Entry Fault → Shown → Type 0
permit_call did (Acquiring n how) w old reply new = IsCallIn w did old (request.Acquire S n) how reply new
permit_call did (Trying n) w old reply new = IsEnteredIn w did old (Try S n) reply new
permit_call did (Releasing n) w old reply new = IsEnteredIn w did old (Give S n) reply new

-- an acquire without time and a release have no answer 'no'
abbrev pub MayMiss : PermitCall → Type 0
MayMiss (Acquiring n how) = is_timed how
MayMiss (Trying n) = Unit {0}
MayMiss (Releasing n) = ⊥

abbrev pub MayTell : PermitCall → Result Bool Fault → Type 0
MayTell asked (Ok false) = MayMiss asked
MayTell asked _ = Unit {0}

-- the free permits that the pass's own entries leave after a call
abbrev pub free_if : Bool → PermitCall → ℤ → ℤ
free_if true (Acquiring n how) f = f -ℤ pos n
free_if true (Trying n) f = f -ℤ pos n
free_if true (Releasing n) f = f +ℤ pos n
free_if false asked f = f

abbrev pub free_after_call : PermitCall → Result Bool Fault → ℤ → ℤ
free_after_call asked returned f = free_if (is_done returned) asked f

-- an entry that leaves the free permits as the answer to its call says
record Frees (asked : PermitCall) (e : Entry) : Type 0 where
  left : (had : ℤ) → free_after e.word e.n had ≡ free_after_call asked (whether_of (Ok e)) had
  answers : MayTell asked (whether_of (Ok e))

frees_as : (asked : PermitCall) (e f : Entry) → e ≡ f → Frees asked f → Frees asked e
frees_as asked e f q frees = subst (λ (z : Entry). Frees asked z) (sym q) frees

at_once_frees : (how : How) (i n : ℕ) (w : Word) → AtOnce how w → Frees (Acquiring n how) (plain i w S n)
at_once_frees how i n word.Got a = record { left = λ had. refl; answers = tt }
at_once_frees how i n (word.Refused fault.TooManyHolds) a = record { left = λ had. refl; answers = tt }
at_once_frees how i n word.Missed a = record { left = λ had. refl; answers = subst is_timed (sym a) tt }
at_once_frees how i n _ a = absurd a

first_frees : (did : Deed → Type 0) (old : Shown) (how : How) (n : ℕ) (step : Step) (e : Entry) (new : Shown) →
    IsAtOnce did old.seat how S n step e.word → EndsAtOnce did old step e new → Frees (Acquiring n how) e
first_frees did old how n step e new (inl a) x =
    let m = x.made in
    let made = subst (λ (t : Step). entry_for (start_at m.front) m.front.entries old.seat t ≡ Ok (Some e)) a.0
    m.made in
    frees_as (Acquiring n how) e (plain old.seat e.word S n)
    (first_plain (start_at m.front) m.front.entries old.seat how S n e made) (at_once_frees how old.seat n e.word a.1)
first_frees did old how n step e new (inr b) x =
    let m = x.made in
    let made = subst (λ (t : Step). entry_for (start_at m.front) m.front.entries old.seat t ≡ Ok (Some e)) b.0
    m.made in
    frees_as (Acquiring n how) e (plain old.seat (word.Refused fault.Interrupted) S n)
    (idle_made (start_at m.front) m.front.entries old.seat (EntryInterrupt S n) e refl made).is
    record { left = λ had. refl; answers = tt }

end_frees : (how : How) (i n : ℕ) (e : Entry) → IsEndFor how i (asking i S n) e → Frees (Acquiring n how) e
end_frees how i n e (inl q) =
    frees_as (Acquiring n how) e (ended i word.Granted (asking i S n) end.None) q
    record { left = λ had. refl; answers = tt }
end_frees how i n e (inr (inl q)) =
    frees_as (Acquiring n how) e (ended i word.Left (asking i S n) end.Timeout) q.0
    record { left = λ had. refl; answers = timed how q.1 }
end_frees how i n e (inr (inr q)) =
    frees_as (Acquiring n how) e (ended i word.Left (asking i S n) end.Interrupt) q.0
    record { left = λ had. refl; answers = tt }

tries_free : (i n : ℕ) (w : Word) →
    (w ≡ word.Missed) ⊎ ((w ≡ word.Refused fault.TooManyHolds) ⊎ (w ≡ word.TryGot)) →
    Frees (Trying n) (plain i w S n)
tries_free i n w (inl q) =
    subst (λ (z : Word). Frees (Trying n) (plain i z S n)) (sym q) record { left = λ had. refl; answers = tt }
tries_free i n w (inr (inl q)) =
    subst (λ (z : Word). Frees (Trying n) (plain i z S n)) (sym q) record { left = λ had. refl; answers = tt }
tries_free i n w (inr (inr q)) =
    subst (λ (z : Word). Frees (Trying n) (plain i z S n)) (sym q) record { left = λ had. refl; answers = tt }

gives_free : (o : Object) (k : Counts) (i n : ℕ) → is_semaphore o ≡ true →
    Frees (Releasing n) (plain i (gave o k i S n) S n)
gives_free (Semaphore p c) k i n t = by (int_lt (pos MOST_AMOUNT) (k.free +ℤ pos n))
  where
    by : (b : Bool) →
        Frees (Releasing n) (plain i (cond b (word.Refused fault.TooManyPermits) word.Gave) S n)
    by true = record { left = λ had. refl; answers = tt }
    by false = record { left = λ had. refl; answers = tt }
gives_free (Lock p) k i n t = cc
gives_free (ReadWrite p) k i n t = cc
gives_free (Latch c) k i n t = cc

-- what a call leaves of the free permits, by what it returned
pub record Left (asked : PermitCall) (old : Shown) (r : Result Entry Fault) (new : Shown) : Type 0 where
  pub free : free_of new ≡ free_after_call asked (whether_of r) (free_of old)
  pub answers : MayTell asked (whether_of r)

own_free : (old new : Shown) → IsSame old new → free_of new ≡ free (opening old.lock.header) new.mine
own_free old new same = ap (λ (l : LockId). free (opening l.header) new.mine) same.lock

left_by : (asked : PermitCall) (old : Shown) (e : Entry) (new : Shown) → IsSame old new →
    free (opening old.lock.header) new.mine ≡ free_after e.word e.n (free_of old) → Frees asked e →
    Left asked old (Ok e) new
left_by asked old e new same is frees =
    record { free = own_free old new same ∙ (is ∙ frees.left (free_of old)); answers = frees.answers }

queued_free : (w : Word) (n : ℕ) (had : ℤ) → w ≡ word.Queued → free_after w n had ≡ had
queued_free w n had q = ap (λ (z : Word). free_after z n had) q

acquire_left : (did : Deed → Type 0) (old new : Shown) (n : ℕ) (how : How) (r : Result Entry Fault) →
    IsSame old new → IsAcquire did old S n how r new → Left (Acquiring n how) old r new
acquire_left did old new n how (Ok e) same (inl a) =
    left_by (Acquiring n how) old e new same
    (ap (λ (l : List Entry). free (opening old.lock.header) l) a.2.mine)
    (first_frees did old how n a.0 e new a.1 a.2)
acquire_left did old new n how (Ok e) same (inr x) =
    left_by (Acquiring n how) old e new same
    (ap (λ (l : List Entry). free (opening old.lock.header) l) x.mine
    ∙ ap (λ (z : ℤ). free_after e.word e.n z) (queued_free x.joined.word x.joined.n (free_of old) x.queued))
    (end_frees how old.seat n e x.end)
acquire_left did old new n how (Err f) same x =
    record {
      free = own_free old new same ∙ ap (λ (l : List Entry). free (opening old.lock.header) l) x.stepped.mine;
      answers = tt;
    }

-- the object of a history in which an entry was recorded is that of the lock
place_semaphore : (old new : Shown) → is_semaphore old.lock.header.object ≡ true → IsSame old new → IsSound new →
    (e : Entry) (p : Point) → Before (with_entry e p) new.seen → is_semaphore p.base.header.object ≡ true
place_semaphore old new semaphore same shows e p there =
    ap (λ (k : Header). is_semaphore k.object) (place_header old new (with_entry e p) same shows there) ∙ semaphore

try_left : (did : Deed → Type 0) (old new : Shown) (n : ℕ) (r : Result Entry Fault) → IsSame old new →
    IsEntered did old (Try S n) r new → Left (Trying n) old r new
try_left did old new n (Ok e) same s =
    let x = entered_made did old new (Try S n) e s in
    let p = x.front in
    let i = idle_made (start_at p) p.entries old.seat (Try S n) e refl x.made in
    let k = counts (start_at p) p.entries in
    let w = tried_words (try_held_back k (first_mode (start_at p) p.entries) old.seat S) (limit k old.seat S)
    (could k old.seat S n) in
    left_by (Trying n) old e new same
    (ap (λ (l : List Entry). free (opening old.lock.header) l) s.1.mine)
    (frees_as (Trying n) e _ i.is (tries_free old.seat n _ w))
try_left did old new n (Err f) same s =
    record {
      free = own_free old new same ∙ ap (λ (l : List Entry). free (opening old.lock.header) l) s.mine;
      answers = tt;
    }

release_frees : (did : Deed → Type 0) (old new : Shown) (n : ℕ) (e : Entry) →
    is_semaphore old.lock.header.object ≡ true → IsSame old new → IsSound new →
    IsEntered did old (Give S n) (Ok e) new → (e.seat ≡ old.seat) × Frees (Releasing n) e
release_frees did old new n e semaphore same shows s =
    let x = entered_made did old new (Give S n) e s in
    let p = x.front in
    let i = idle_made (start_at p) p.entries old.seat (Give S n) e refl x.made in
    let k = counts (start_at p) p.entries in
    let found = place_semaphore old new semaphore same shows e p x.there in (
      ap (λ (z : Entry). z.seat) i.is,
      frees_as (Releasing n) e _ i.is (gives_free p.base.header.object k old.seat n found),
    )

release_left : (did : Deed → Type 0) (old new : Shown) (n : ℕ) (r : Result Entry Fault) →
    is_semaphore old.lock.header.object ≡ true → IsSame old new → IsSound new →
    IsEntered did old (Give S n) r new → Left (Releasing n) old r new
release_left did old new n (Ok e) semaphore same shows s =
    left_by (Releasing n) old e new same
    (ap (λ (l : List Entry). free (opening old.lock.header) l) s.1.mine)
    (release_frees did old new n e semaphore same shows s).1
release_left did old new n (Err f) semaphore same shows s =
    record {
      free = own_free old new same ∙ ap (λ (l : List Entry). free (opening old.lock.header) l) s.mine;
      answers = tt;
    }

-- a call that failed and recorded nothing leaves them as they were
failed_left : (asked : PermitCall) (old new : Shown) (f : Fault) → IsSame old new → new.mine ≡ old.mine →
    Left asked old (Err f) new
failed_left asked old new f same mine =
    record {
      free = own_free old new same ∙ ap (λ (l : List Entry). free (opening old.lock.header) l) mine;
      answers = tt;
    }

acquires_left : (did : Deed → Type 0) (w : WhenFull) (n : ℕ) (how : How) (old new : Shown) (r : Result Entry Fault) →
    IsSame old new → Acquires w did S n how old new r → Left (Acquiring n how) old r new
acquires_left did w n how old new r same made =
    in_room (λ (from : Shown). λ (s : Result Entry Fault). Left (Acquiring n how) from s new) w _ old new r same
    (λ p. λ b. λ x. record { free = x.free; answers = x.answers })
    (λ f. λ mine. λ b. failed_left (Acquiring n how) old new f same mine)
    (λ from. λ s. λ of. λ at. λ one. acquire_left did from new n how s at one) made

tries_left : (did : Deed → Type 0) (w : WhenFull) (n : ℕ) (old new : Shown) (r : Result Entry Fault) →
    IsSame old new → Steps w did (Try S n) old new r → Left (Trying n) old r new
tries_left did w n old new r same made =
    in_room (λ (from : Shown). λ (s : Result Entry Fault). Left (Trying n) from s new) w _ old new r same
    (λ p. λ b. λ x. record { free = x.free; answers = x.answers })
    (λ f. λ mine. λ b. failed_left (Trying n) old new f same mine)
    (λ from. λ s. λ of. λ at. λ one. try_left did from new n s at one) made

pub permits_left : (did : Deed → Type 0) (w : WhenFull) (asked : PermitCall) (old new : Shown)
    (r : Result Entry Fault) → is_semaphore old.lock.header.object ≡ true → IsSame old new → IsSound new → permit_call did asked w old r new →
    Left asked old r new
permits_left did w (Acquiring n how) old new r semaphore same shows made =
    acquires_left did w n how old new r same made
permits_left did w (Trying n) old new r semaphore same shows made = tries_left did w n old new r same made
permits_left did w (Releasing n) old new r semaphore same shows made =
    in_room (λ (from : Shown). λ (s : Result Entry Fault). Left (Releasing n) from s new) w _ old new r same
    (λ p. λ b. λ x. record { free = x.free; answers = x.answers })
    (λ f. λ mine. λ b. failed_left (Releasing n) old new f same mine)
    (λ from. λ s. λ of. λ at. λ one. release_left did from new n s
    (ap (λ (l : LockId). is_semaphore l.header.object) of ∙ semaphore) at shows one) made

-- a drain's one entry takes as many as it returns
drain_is : (did : Deed → Type 0) (old new : Shown) (e : Entry) → (s : IsEntered did old Drain (Ok e) new) →
    let p = (entered_made did old new Drain e s).front in
    e ≡ plain old.seat word.Drained S (at_least_none (free_at p))
drain_is did old new e s =
    let x = entered_made did old new Drain e s in
    (idle_made (start_at x.front) x.front.entries old.seat Drain e refl x.made).is

drained_by : (e : Entry) (i m : ℕ) (had : ℤ) → e ≡ plain i word.Drained S m →
    free_after e.word e.n had ≡ had -ℤ pos (if_ok (number_of (Ok e)))
drained_by e i m had q =
    subst (λ (z : Entry). free_after z.word z.n had ≡ had -ℤ pos (if_ok (number_of (Ok z)))) (sym q) refl

failed_drain : (old new : Shown) (f : Fault) → IsSame old new → new.mine ≡ old.mine →
    free_of new ≡ free_of old -ℤ pos (if_ok (number_of (Err f)))
failed_drain old new f same mine =
    own_free old new same
    ∙ (ap (λ (l : List Entry). free (opening old.lock.header) l) mine ∙ nothing (free_of old))
  where
    nothing : (f : ℤ) → f ≡ f -ℤ pos 0
    nothing f = omega (arith, ints)

drain_left : (did : Deed → Type 0) (old new : Shown) (r : Result Entry Fault) → IsSame old new →
    IsEntered did old Drain r new → free_of new ≡ free_of old -ℤ pos (if_ok (number_of r))
drain_left did old new (Ok e) same s =
    own_free old new same
    ∙ (ap (λ (l : List Entry). free (opening old.lock.header) l) s.1.mine
    ∙ drained_by e old.seat _ (free_of old) (drain_is did old new e s))
drain_left did old new (Err f) same s = failed_drain old new f same s.mine

pub drains_left : (did : Deed → Type 0) (w : WhenFull) (old new : Shown) (r : Result Entry Fault) →
    IsSame old new → Steps w did Drain old new r → free_of new ≡ free_of old -ℤ pos (if_ok (number_of r))
drains_left did w old new r same made =
    in_room (λ (from : Shown). λ (s : Result Entry Fault). free_of new ≡ free_of from -ℤ pos (if_ok (number_of s)))
    w _ old new r same (λ p. λ b. λ x. x) (λ f. λ mine. λ b. failed_drain old new f same mine)
    (λ from. λ s. λ of. λ at. λ one. drain_left did from new s at one) made

-- the permits that a pass took, by what its own entries leave free
took : (asked : PermitCall) (n : ℕ) (f g k : ℤ) (told : Result Bool Fault) →
    ((h : ℤ) → free_if true asked h ≡ h -ℤ pos n) → g ≡ free_after_call asked told f →
    k -ℤ g ≡ (k -ℤ f) +ℤ pos (if_yes told n)
took asked n f g k (Ok true) takes is = let q : g ≡ f -ℤ pos n = is ∙ takes f in omega (arith, ints, q)
took asked n f g k (Ok false) takes is = omega (arith, ints, is)
took asked n f g k (Err e) takes is = omega (arith, ints, is)

gave_back : (n : ℕ) (f g k : ℤ) (told : Result Bool Fault) →
    g ≡ free_after_call (Releasing n) told f → (k -ℤ g) +ℤ pos (if_yes told n) ≡ k -ℤ f
gave_back n f g k (Ok true) is = omega (arith, ints, is)
gave_back n f g k (Ok false) is = omega (arith, ints, is)
gave_back n f g k (Err e) is = omega (arith, ints, is)

drained : (n : ℕ) (f g k : ℤ) → g ≡ f -ℤ pos n → k -ℤ g ≡ (k -ℤ f) +ℤ pos n
drained n f g k is = omega (arith, ints, is)

opened_as : (old new : Shown) → IsSame old new →
    free (opening new.lock.header) [] ≡ free (opening old.lock.header) []
opened_as old new same = ap (λ (l : LockId). free (opening l.header) []) same.lock

pub acquires_take : (w : WhenFull) (did : Deed → Type 0) (n : ℕ) (how : How) (old new : Shown)
    (r : Result Entry Fault) → IsSame old new → Acquires w did S n how old new r →
    TakesPermits n old (whether_of r) new
acquires_take w did n how old new r same x =
    let left = acquires_left did w n how old new r same x in
    ap (λ (k : ℤ). k -ℤ free_of new) (opened_as old new same)
    ∙ took (Acquiring n how) n (free_of old) (free_of new) (free (opening old.lock.header) []) (whether_of r)
    (λ h. refl) left.free

pub tries_take : (w : WhenFull) (did : Deed → Type 0) (n : ℕ) (old new : Shown) (r : Result Entry Fault) →
    IsSame old new → Steps w did (Try S n) old new r → TakesPermits n old (whether_of r) new
tries_take w did n old new r same x =
    let left = tries_left did w n old new r same x in
    ap (λ (k : ℤ). k -ℤ free_of new) (opened_as old new same)
    ∙ took (Trying n) n (free_of old) (free_of new) (free (opening old.lock.header) []) (whether_of r) (λ h. refl)
    left.free

pub releases_give : (w : WhenFull) (did : Deed → Type 0) (n : ℕ) (old new : Shown) (r : Result Entry Fault) →
    IsSame old new → IsSound new → Steps w did (Give S n) old new r → GivesPermits n old (whether_of r) new
releases_give w did n old new r same shows x = λ semaphore.
    let left = permits_left did w (Releasing n) old new r semaphore same shows x in
    ap (λ (k : ℤ). (k -ℤ free_of new) +ℤ pos (if_yes (whether_of r) n)) (opened_as old new same)
    ∙ gave_back n (free_of old) (free_of new) (free (opening old.lock.header) []) (whether_of r) left.free

pub drains_take : (w : WhenFull) (did : Deed → Type 0) (old new : Shown) (r : Result Entry Fault) →
    IsSame old new → Steps w did Drain old new r → DrainsPermits old (number_of r) new
drains_take w did old new r same x =
    ap (λ (k : ℤ). k -ℤ free_of new) (opened_as old new same)
    ∙ drained (if_ok (number_of r)) (free_of old) (free_of new) (free (opening old.lock.header) [])
    (drains_left did w old new r same x)

-- Where a call took permits, they were free.
semaphore_enough : (o : Object) (k : Counts) (i n : ℕ) → is_semaphore o ≡ true → could_of o k i S n ≡ true →
    pos n ≤ℤ k.free
semaphore_enough (Semaphore p c) k i n t u = enough k.free n u
  where
    enough : (f : ℤ) (m : ℕ) → int_le (pos 0) (f -ℤ pos m) ≡ true → pos m ≤ℤ f
    enough f m q = omega (arith, ints)
semaphore_enough (Lock p) k i n t u = cc
semaphore_enough (ReadWrite p) k i n t u = cc
semaphore_enough (Latch c) k i n t u = cc

got_frees : (w : Word) (n : ℕ) (f : ℤ) → gets w ≡ true → free_after w n f ≡ f -ℤ pos n
got_frees word.Got n f t = refl
got_frees word.TryGot n f t = refl
got_frees word.Granted n f t = refl
got_frees _ n f t = cc

gets_taken : (did : Deed → Type 0) (old new : Shown) (n : ℕ) (e : Entry) →
    is_semaphore old.lock.header.object ≡ true → IsSame old new → IsSound new → Gets did old S n e new →
    AtOwnEntry (IsTaken n) old new
gets_taken did old new n e semaphore same shows x =
    let p = x.made.front in
    let is = place_semaphore old new semaphore same shows e p x.made.there in
    at_made did old new x.step e x.made x.got.seat (
      semaphore_enough p.base.header.object (counts (start_at p) p.entries) old.seat n is
          (got_there did old new.seen S n x.step e x.made x.got),
      got_frees e.word e.n (free_at p) x.got.word ∙ ap (λ (z : ℕ). free_at p -ℤ pos z) x.got.amount,
    )

acquire_taken : (did : Deed → Type 0) (old new : Shown) (n : ℕ) (how : How) (r : Result Entry Fault) →
    is_semaphore old.lock.header.object ≡ true → IsSame old new → IsSound new → IsAcquire did old S n how r new →
    whether_of r ≡ Ok true → AtOwnEntry (IsTaken n) old new
acquire_taken did old new n how (Ok e) semaphore same shows x t =
    gets_taken did old new n e semaphore same shows (acquire_gets did old new S n how e x t)
acquire_taken did old new n how (Err f) semaphore same shows x t = absurd (never_refused f true t)

try_taken : (did : Deed → Type 0) (old new : Shown) (n : ℕ) (r : Result Entry Fault) →
    is_semaphore old.lock.header.object ≡ true → IsSame old new → IsSound new → IsEntered did old (Try S n) r new →
    whether_of r ≡ Ok true → AtOwnEntry (IsTaken n) old new
try_taken did old new n (Ok e) semaphore same shows x t =
    gets_taken did old new n e semaphore same shows (try_gets did old new S n e x t)
try_taken did old new n (Err f) semaphore same shows x t = absurd (never_refused f true t)

release_given : (did : Deed → Type 0) (old new : Shown) (n : ℕ) (r : Result Entry Fault) →
    is_semaphore old.lock.header.object ≡ true → IsSame old new → IsSound new →
    IsEntered did old (Give S n) r new → whether_of r ≡ Ok true → AtOwnEntry (IsGiven n) old new
release_given did old new n (Ok e) semaphore same shows x t =
    let made = entered_made did old new (Give S n) e x in
    let frees = release_frees did old new n e semaphore same shows x in
    at_made did old new (Give S n) e made frees.0
    (frees.1.left (free_at made.front)
    ∙ ap (λ (z : Result Bool Fault). free_after_call (Releasing n) z (free_at made.front)) t)
release_given did old new n (Err f) semaphore same shows x t = absurd (never_refused f true t)

drain_taken : (did : Deed → Type 0) (old new : Shown) (r : Result Entry Fault) → IsEntered did old Drain r new →
    DrainsFree old (number_of r) new
drain_taken did old new (Ok e) x =
    let made = entered_made did old new Drain e x in
    let q = drain_is did old new e x in
    let all = at_least_none (free_at made.front) in
    let number : number_of (Ok e) ≡ Ok all = ap (λ (z : Entry). number_of (Ok z)) q in
    subst (λ (z : Result ℕ Fault). DrainsFree old z new) (sym number)
    (at_made {fact = IsDrained all} did old new Drain e made (ap (λ (z : Entry). z.seat) q)
    (refl, ap (λ (z : Entry). free_after z.word z.n (free_at made.front)) q))
drain_taken did old new (Err f) x = tt

-- of a lock that is the same, a semaphore
as_semaphore : (old from : Shown) → from.lock ≡ old.lock → is_semaphore old.lock.header.object ≡ true →
    is_semaphore from.lock.header.object ≡ true
as_semaphore old from of semaphore = ap (λ (l : LockId). is_semaphore l.header.object) of ∙ semaphore

pub acquires_take_free : (w : WhenFull) (did : Deed → Type 0) (n : ℕ) (how : How) (old new : Shown)
    (r : Result Entry Fault) → IsSame old new → IsSound new → Acquires w did S n how old new r →
    TakesFree n old (whether_of r) new
acquires_take_free w did n how old new r same shows x = λ semaphore.
    in_room (λ (from : Shown). λ (s : Result Entry Fault). whether_of s ≡ Ok true → AtOwnEntry (IsTaken n) from new)
    w _ old new r same (λ p. λ b. λ y. λ t. at_later old new p b (y t))
    (λ f. λ mine. λ b. λ t. absurd (never_refused f true t))
    (λ from. λ s. λ of. λ at. λ one. acquire_taken did from new n how s (as_semaphore old from of semaphore) at shows
    one) x

pub tries_take_free : (w : WhenFull) (did : Deed → Type 0) (n : ℕ) (old new : Shown) (r : Result Entry Fault) →
    IsSame old new → IsSound new → Steps w did (Try S n) old new r → TakesFree n old (whether_of r) new
tries_take_free w did n old new r same shows x = λ semaphore.
    in_room (λ (from : Shown). λ (s : Result Entry Fault). whether_of s ≡ Ok true → AtOwnEntry (IsTaken n) from new)
    w _ old new r same (λ p. λ b. λ y. λ t. at_later old new p b (y t))
    (λ f. λ mine. λ b. λ t. absurd (never_refused f true t))
    (λ from. λ s. λ of. λ at. λ one. try_taken did from new n s (as_semaphore old from of semaphore) at shows one) x

pub releases_give_free : (w : WhenFull) (did : Deed → Type 0) (n : ℕ) (old new : Shown) (r : Result Entry Fault) →
    IsSame old new → IsSound new → Steps w did (Give S n) old new r → GivesFree n old (whether_of r) new
releases_give_free w did n old new r same shows x = λ semaphore.
    in_room (λ (from : Shown). λ (s : Result Entry Fault). whether_of s ≡ Ok true → AtOwnEntry (IsGiven n) from new)
    w _ old new r same (λ p. λ b. λ y. λ t. at_later old new p b (y t))
    (λ f. λ mine. λ b. λ t. absurd (never_refused f true t))
    (λ from. λ s. λ of. λ at. λ one. release_given did from new n s (as_semaphore old from of semaphore) at shows one)
    x

pub drains_take_free : (w : WhenFull) (did : Deed → Type 0) (old new : Shown) (r : Result Entry Fault) →
    IsSame old new → Steps w did Drain old new r → DrainsFree old (number_of r) new
drains_take_free w did old new r same x =
    in_room (λ (from : Shown). λ (s : Result Entry Fault). DrainsFree from (number_of s) new)
    w _ old new r same (λ p. λ b. λ y. later p b (number_of r) y) (λ f. λ mine. λ b. tt)
    (λ from. λ s. λ of. λ at. λ one. drain_taken did from new s one) x
  where
    later : (p : Point) → Before old.seen p → (z : Result ℕ Fault) → DrainsFree (at_point old p) z new →
        DrainsFree old z new
    later p b (Ok n) y = at_later old new p b y
    later p b (Err f) y = tt

-- the same of calls of which is told only that they were made
pub untimed_takes : (w : WhenFull) (did : Deed → Type 0) (n : ℕ) (how : How) (old new : Shown)
    (r : Result Entry Fault) (told : Result (Unit {0}) Fault) → (is_timed how → ⊥) → IsSame old new →
    Acquires w did S n how old new r → told ≡ done_of r → TakesPermits n old (with_yes told) new
untimed_takes w did n how old new r told untimed same x is =
    subst (λ (z : Result Bool Fault). TakesPermits n old z new)
    (sym (untimed_told w did S n how old new r told untimed same x is)) (acquires_take w did n how old new r same x)

pub untimed_takes_free : (w : WhenFull) (did : Deed → Type 0) (n : ℕ) (how : How) (old new : Shown)
    (r : Result Entry Fault) (told : Result (Unit {0}) Fault) → (is_timed how → ⊥) → IsSame old new → IsSound new →
    Acquires w did S n how old new r → told ≡ done_of r → TakesFree n old (with_yes told) new
untimed_takes_free w did n how old new r told untimed same shows x is =
    subst (λ (z : Result Bool Fault). TakesFree n old z new)
    (sym (untimed_told w did S n how old new r told untimed same x is))
    (acquires_take_free w did n how old new r same shows x)

pub release_gives : (w : WhenFull) (did : Deed → Type 0) (n : ℕ) (old new : Shown) (r : Result Entry Fault)
    (told : Result (Unit {0}) Fault) → IsSame old new → IsSound new → Steps w did (Give S n) old new r →
    told ≡ done_of r → GivesPermits n old (with_yes told) new
release_gives w did n old new r told same shows x is =
    subst (λ (z : Result Bool Fault). GivesPermits n old z new) (sym (gives_told w did S n old new r told same x is))
    (releases_give w did n old new r same shows x)

pub release_gives_free : (w : WhenFull) (did : Deed → Type 0) (n : ℕ) (old new : Shown) (r : Result Entry Fault)
    (told : Result (Unit {0}) Fault) → IsSame old new → IsSound new → Steps w did (Give S n) old new r →
    told ≡ done_of r → GivesFree n old (with_yes told) new
release_gives_free w did n old new r told same shows x is =
    subst (λ (z : Result Bool Fault). GivesFree n old z new) (sym (gives_told w did S n old new r told same x is))
    (releases_give_free w did n old new r same shows x)
