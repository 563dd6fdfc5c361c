-- What a section of the lock with one step of the core leaves.
use Rattle.std.proofs.Common.{◌≡◌, ◌==◌, ◌⊎◌, inl, inr, ℕ, ◌+◌, ◌<◌, ◌≤◌, ◌^◌, Bool, cond, List, [], ◌∷◌, ◌++◌, length, Result, Ok, Err, Option, Some, None, IsOk, IfOk, refl, sym, ap, ◌∙◌, subst, arith}
use Rattle.std.specs.List.{AllByRecursion, filter}
use Rattle.std.proofs.lemmas.Bool.{cond_both}
use Rattle.monitor.specs.Below.{answer, answer_by, ended_calls, ends_call, seat_of, calls, entries_of, named, has_room, Start, entry_for, Entry, Fault, Answer, Recorded, Step, Header, CoreView, start_of, IsAnswered, IsTold, MakesOwed, NamesBelow, made_by, Point, SeatLog, header_of, Before, Follows, added, Agrees, AllAgree, LockId, Ticket, first_seat, first_entries, after_lock, after_unlock, after_meet}
use Rattle.history.proofs.Times.{total_part}
use Rattle.history.specs.declared.fault.Fault.TheVariants as fault
use Rattle.history.proofs.Answering.{entry_seat}
use lib.ListN.{get_elem?}
use Rattle.word_lock.specs.Woken.{WasWoken}
use Rattle.word_lock.proofs.PointLaws.{before_header, before_refl, before_trans, follows_more, added_more}
use Rattle.word_lock.proofs.Sections.{IsSection, section}
use Rattle.word_lock.proofs.Tokens.{one_log}
use Rattle.monitor.specs.Prelude.{point_of, start_at, view_of, Beside, IsLawfulCore, IsLawful, Called, CalledQuietly, Shown, shown, IsPass, IsSound, IsStep, IsStepNow, Now}
use Rattle.monitor.specs.inner.Stepping.{now_of}
use Rattle.monitor.proofs.Beside.{beside_of}

-- an answer's history is what was, with the entry that it recorded, which is of the seat
pub record Grows (i : ℕ) (h : List Entry) (given : Result Answer Fault × List Entry) : Type 0 where
  pub grown : given.1 ≡ made_by given.0 ++ h
  pub own : AllByRecursion (λ e. e.seat ≡ i) (made_by given.0)

answer_grows : (s : Start) (h : List Entry) (i : ℕ) (step : Step) → Grows i h (answer s h i step)
answer_grows s h i step = by (entry_for s h i step) refl
  where
    by : (r : Result (Option Entry) Fault) → entry_for s h i step ≡ r → Grows i h (answer_by s h r)
    by (Err f) q = record { grown = refl; own = tt }
    by (Ok None) q = record { grown = refl; own = tt }
    by (Ok (Some e)) q =
        cond_both (has_room s h e) (Ok (Recorded e (named s h e)), e ∷ h)
        (Err fault.HistoryFull, h) (Grows i h)
        (λ room. record {
          grown = refl;
          own = (entry_seat s h i step e q, tt);
        })
        (λ full. record { grown = refl; own = tt })

-- what a step that was answered leaves
pub record Left (i : ℕ) (p q : Point) (r : Result Answer Fault) : Type 0 where
  pub base : p.base ≡ q.base
  pub grown : q.entries ≡ made_by r ++ p.entries
  pub own : AllByRecursion (λ e. e.seat ≡ i) (made_by r)

pub left : (i : ℕ) (p q : Point) (m n : Beside) (step : Step) (r : Result Answer Fault) →
    IsAnswered (view_of p m) i step r (view_of q n) → Left i p q r
left i p q m n step r (inl a) =
    let g = answer_grows (start_of (view_of p m)) p.entries i step in
    let R : Result Answer Fault → Type 0 = λ z. Left i p q z in
    subst R (sym a.answer) record {
      base = sym a.base;
      grown = a.entries ∙ g.grown;
      own = g.own;
    }
left i p q m n step r (inr b) =
    let R : Result Answer Fault → Type 0 = λ z. Left i p q z in
    subst R (sym b.0) record {
      base = ap (λ (v : CoreView). v.base) (sym b.1.unchanged);
      grown = ap (λ (v : CoreView). v.entries) b.1.unchanged;
      own = tt;
    }

pub follows_step : (i : ℕ) (p q : Point) (m n : Beside) (step : Step) (r : Result Answer Fault) →
    IsAnswered (view_of p m) i step r (view_of q n) → Follows i p q
follows_step i p q m n step r a = let l = left i p q m n step r a in
    follows_more i p q (made_by r) l.base l.grown l.own

pub added_step : (i : ℕ) (p q : Point) (m n : Beside) (step : Step) (r : Result Answer Fault) →
    IsAnswered (view_of p m) i step r (view_of q n) → added p q ≡ made_by r
added_step i p q m n step r a = let l = left i p q m n step r a in added_more p q (made_by r) l.base l.grown

-- no more calls end than there are entries
pub calls_few : (es : List Entry) → ended_calls es ≤ length es
calls_few [] = omega arith
calls_few (e ∷ es) = let h = calls_few es in
    cond_both (ends_call e.word) 1 0 (λ n. ended_calls es + n ≤ length (e ∷ es)) (λ t. omega (arith, h))
    (λ t. omega (arith, h))

filter_few : (t : Entry → Bool) (es : List Entry) → length (filter t es) ≤ length es
filter_few t [] = omega arith
filter_few t (e ∷ es) = let h = filter_few t es in
    cond_both (t e) (e ∷ filter t es) (filter t es) (λ l. length l ≤ length (e ∷ es)) (λ q. omega (arith, h))
    (λ q. omega (arith, h))

pub share_few : (p : Point) (i : ℕ) (es : List Entry) (share : ℕ) → Agrees p i es → IsLawful p →
    i < p.base.header.seats → share ≡ ended_calls es → share < 2 ^ 63
unfolding Agrees
share_few p i es share agrees lawful below is =
    let a = calls_few (entries_of i p.entries) in
    let b = filter_few (λ e. e.seat == i) p.entries in
    let c = agrees.calls in
    let part = total_part p.base.header.seats (λ j. (seat_of p.base j).calls) i below in
    let all = lawful.may_fold.can.good.calls in
    let most = lawful.may_fold.can.good.entries in
    let few = lawful.short in
    omega (arith, a, b, c, part, all, most, few, is)

-- the calls of all seats
more_calls : (s : Start) (h : List Entry) → calls s h ≤ calls s [] + length h
more_calls s [] = omega arith
more_calls s (e ∷ h) = let m = more_calls s h in
    cond_both (ends_call e.word) 1 0 (λ n. calls s h + n ≤ calls s [] + length (e ∷ h)) (λ t. omega (
      arith,
      m,
    ))
    (λ t. omega (arith, m))

pub all_calls_few : (p : Point) → IsLawful p → calls (start_at p) p.entries < 2 ^ 63
all_calls_few p lawful =
    let more = more_calls (start_at p) p.entries in
    let all = lawful.may_fold.can.good.calls in
    let most = lawful.may_fold.can.good.entries in
    let few = lawful.short in
    omega (arith, more, all, most, few)

-- a core that is kept, as its point shows it
pub core_shown : (v : CoreView) → IsLawfulCore v → view_of (point_of v) (beside_of v) ≡ v
core_shown v kept = λ d. record {
  header = kept.header d;
  base = v.base;
  entries = v.entries;
  places = v.places;
  told = v.told;
}

pub answered_shown : (v w : CoreView) (i : ℕ) (step : Step) (r : Result Answer Fault) →
    IsLawfulCore v → IsLawfulCore w → IsAnswered v i step r w →
    IsAnswered (view_of (point_of v) (beside_of v)) i step r (view_of (point_of w) (beside_of w))
answered_shown v w i step r kept left a =
    subst (λ x. IsAnswered x i step r (view_of (point_of w) (beside_of w))) (sym (core_shown v kept))
    (subst (λ y. IsAnswered v i step r y) (sym (core_shown w left)) a)

pub owed_shown : (v : CoreView) (i : ℕ) (step : Step) (r : Result Answer Fault) → IsLawfulCore v →
    (MakesOwed v i step → IsOk r) → MakesOwed (view_of (point_of v) (beside_of v)) i step → IsOk r
owed_shown v i step r kept owed m = owed (subst (λ x. MakesOwed x i step) (core_shown v kept) m)

pub seat_below : (p : Point) (k l : Header) (seat : ℕ) → header_of p ≡ k → k ≡ l → seat < l.seats →
    seat < p.base.header.seats
unfolding header_of
seat_below p k l seat is same below = subst (λ (z : Header). seat < z.seats) (sym (is ∙ same)) below

pub calls_more : (es fs : List Entry) → ended_calls (es ++ fs) ≡ ended_calls es + ended_calls fs
calls_more [] fs = let n : ℕ = ended_calls fs in let goal : n ≡ 0 + n = omega arith in goal
calls_more (e ∷ es) fs =
    let n : ℕ = (cond (ends_call e.word) 1 0) in
    let h : ended_calls (es ++ fs) ≡ ended_calls es + ended_calls fs = calls_more es fs in
    let goal : ended_calls (es ++ fs) + n ≡ (ended_calls es + n) + ended_calls fs = omega (arith, h) in goal

-- what a point has of the only seat of a token
pub own_entries : (t : Ticket) (p : Point) (seat : ℕ) → length t.logs ≡ 1 → first_seat t.logs ≡ seat →
    AllAgree p t.logs → Agrees p seat (first_entries t.logs)
own_entries t p seat one own agree =
    subst (λ (k : ℕ). Agrees p k (first_entries t.logs)) own
    (agree 0 _ (ap (λ (l : List SeatLog). get_elem? l 0) (one_log t.logs one)))

-- the pass after a section whose calls were counted, where what was left is lawful
pub passed : (t n : Ticket) (p q : Point) (seat share next : ℕ) → IsSection t n p q seat →
    IsPass t seat share → IsLawful q → next ≡ ended_calls (first_entries n.logs) → IsPass n seat next
passed t n p q seat share next x was lawful counted =
    record {
      free = x.free;
      one = x.one;
      seat_is = x.seat_is;
      shows = record {
        lawful = subst IsLawful (sym x.seen) lawful;
        header = sym (before_header t.seen n.seen x.begins)
            ∙ (was.shows.header ∙ ap (λ (l : LockId). l.header) (sym x.lock));
        below = subst (λ (l : LockId). seat < l.header.seats) (sym x.lock) was.shows.below;
        agrees = x.agrees;
        counted = counted;
      };
    }

-- what a call leaves that made such a section
pub called_by : (t n : Ticket) (p q : Point) (seat share next : ℕ) → IsSection t n p q seat → IsPass n seat next →
    CalledQuietly (shown t seat share) (shown n seat next)
called_by t n p q seat share next x pass =
    record { same = record { lock = x.lock; seat = refl }; begins = x.begins; shows = pass.shows }

-- or none
pub not_called : (p : Shown) → IsSound p → CalledQuietly p p
not_called p shows = record { same = record { lock = refl; seat = refl }; begins = before_refl p.seen; shows = shows }

-- a section that adds nothing leaves the entries of the pass
pub mine_stays : (t n : Ticket) (p q : Point) (seat : ℕ) → IsSection t n p q seat → added p q ≡ [] →
    first_entries n.logs ≡ first_entries t.logs
mine_stays t n p q seat x none = x.grown ∙ ap (λ (l : List Entry). l ++ first_entries t.logs) none

-- a pass after a section with one step
module _ (t o n : Ticket) (p q : Point) (seat share : ℕ) (step : Step) (r : Result Answer Fault) where
  pub record Section : Type 0 where
    pub taken : o ≡ after_lock t p
    pub given : n ≡ after_unlock o q
    pub was : IsPass t seat share
    pub begins : Before t.seen p
    pub entries : AllAgree p t.logs
    pub beside : Beside
    pub beside_left : Beside
    pub answered : IsAnswered (view_of p beside) seat step r (view_of q beside_left)
    pub told : IsTold (view_of p beside) seat r (view_of q beside_left)
    pub found : IsLawful p
    pub lawful : IsLawful q

  pub sectioned : Section → IsSection t n p q seat
  sectioned s =
      section t o n p q seat s.taken s.given s.was.one s.was.seat_is s.begins s.entries
      (follows_step seat p q s.beside s.beside_left step r s.answered)

  pub mine_grown : Section → first_entries n.logs ≡ made_by r ++ first_entries t.logs
  mine_grown s =
      (sectioned s).grown ∙ ap (λ (l : List Entry). l ++ first_entries t.logs)
      (added_step seat p q s.beside s.beside_left step r s.answered)

  pub section_pass : Section → (next : ℕ) → next ≡ ended_calls (made_by r) + share → IsPass n seat next
  section_pass s next is =
      passed t n p q seat share next (sectioned s) s.was s.lawful
      (is ∙ (ap (λ k. ended_calls (made_by r) + k) s.was.shows.counted
      ∙ (sym (calls_more (made_by r) (first_entries t.logs)) ∙ ap ended_calls (sym (mine_grown s)))))

  pub section_step : (s : Section) → (next : ℕ) → (MakesOwed (view_of p s.beside) seat step → IsOk r) →
      IfOk r (λ a. NamesBelow t.lock.header.seats a) → IsStep (shown t seat share) step r (shown n seat next)
  section_step s next owed names = let x = sectioned s in record {
    found = p;
    begins = s.begins;
    lawful = s.found;
    agrees = own_entries t p seat s.was.one s.was.seat_is s.entries;
    beside = s.beside;
    beside_left = s.beside_left;
    answered = subst (λ (z : Point). IsAnswered (view_of p s.beside) seat step r
        (view_of z s.beside_left)) (sym x.seen)
        s.answered;
    told = subst (λ (z : Point). IsTold (view_of p s.beside) seat r (view_of z s.beside_left)) (sym x.seen)
        s.told;
    owed = owed;
    names = names;
    after = x.begins;
    mine = mine_grown s;
  }

-- a call after which whoever sleeps was woken
pub call_woken : (old new : Shown) → CalledQuietly old new → WasWoken new.lock new.seen → Called old new
call_woken old new x woken = record { same = x.same; begins = x.begins; shows = x.shows; woken = woken }

pub quietly : (old new : Shown) → Called old new → CalledQuietly old new
quietly old new x = record { same = x.same; begins = x.begins; shows = x.shows }

-- one call after another
pub quiet_since : (old mid new : Shown) → CalledQuietly old mid → CalledQuietly mid new → CalledQuietly old new
quiet_since old mid new x y = record {
  same = record { lock = y.same.lock ∙ x.same.lock; seat = y.same.seat ∙ x.same.seat };
  begins = before_trans old.seen mid.seen new.seen x.begins y.begins;
  shows = y.shows;
}

pub called_since : (old mid new : Shown) → CalledQuietly old mid → Called mid new → Called old new
called_since old mid new x y = call_woken old new (quiet_since old mid new x (quietly mid new y)) y.woken

-- or a call after which nothing more was done
pub called_unless : (old mid new : Shown) → Called old mid → Called mid new ⊎ (new ≡ mid) → Called old new
called_unless old mid new x (inl y) = called_since old mid new (quietly old mid x) y
called_unless old mid new x (inr same) = subst (λ (p : Shown). Called old p) (sym same) x

-- what a meeting leaves
pub met_called : (t n : Ticket) (p : Point) (seat share : ℕ) → n ≡ after_meet t p → IsPass n seat share →
    Before t.seen p → CalledQuietly (shown t seat share) (shown n seat share)
met_called t n p seat share is pass begins = record {
  same = record { lock = ap (λ (z : Ticket). z.lock) is; seat = refl };
  begins = subst (λ (z : Ticket). Before t.seen z.seen) (sym is) begins;
  shows = pass.shows;
}

-- a pass that has seen more is a pass
pub met : (t n : Ticket) (p : Point) (seat share : ℕ) → n ≡ after_meet t p →
    IsPass t seat share → IsLawful p →
    Before t.seen p → AllAgree p t.logs → IsPass n seat share
met t n p seat share is s lawful begins agree =
    subst (λ (z : Ticket). IsPass z seat share) (sym is) record {
      free = s.free;
      one = s.one;
      seat_is = s.seat_is;
      shows = record {
        lawful = lawful;
        header = sym (before_header t.seen p begins) ∙ s.shows.header;
        below = s.shows.below;
        agrees = own_entries t p seat s.one s.seat_is agree;
        counted = s.shows.counted;
      };
    }

pub as_step_now : (old new : Shown) (step : Step) (r : Result Answer Fault)
    (z : Result Now Fault) → z ≡ now_of r →
    IsStep old step r new → IsStepNow old step z new
as_step_now old new step (Ok a) z is s = subst (λ (z : Result Now Fault). IsStepNow old step z new) (sym is) s
as_step_now old new step (Err f) z is s =
    subst (λ (z : Result Now Fault). IsStepNow old step z new) (sym is) s
