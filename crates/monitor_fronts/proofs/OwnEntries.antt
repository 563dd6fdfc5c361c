-- The entries of a call, where they were recorded, and that what the call got could be had there.
use Rattle.std.proofs.Common.{◌≡◌, ◌⊎◌, inl, inr, ℕ, Bool, true, false, List, [], ◌∷◌, Some, Result, Ok, Err, refl, sym, ap, ◌∙◌, subst}
use Rattle.history.specs.declared.entry.End.TheVariants as end
use Rattle.monitor_fronts.specs.Below.{Entry, Mode, Word, Fault, Object, Point, Step, Give, Try, could, limit, try_held_back, counts, first_mode, Start, ended, entry_for, plain, Deed, Before, header_of, LockId, AtOnce, IsAcquire, IsEndFor, start_at, Shown, IsSound, IsEntered, IsSame, IsMade, asking, with_entry, How}
use Rattle.history.specs.declared.entry.Word.TheVariants as word
use Rattle.history.specs.declared.fault.Fault.TheVariants as fault
use Rattle.history.proofs.Entering.{GaveWord, KnownBy, gave_word, known}
use Rattle.history.proofs.Owners.{ready_could}
use Rattle.word_lock.proofs.PointLaws.{before_header, before_refl, before_trans}
use Rattle.monitor.proofs.Acquiring.{idle_made}
use Rattle.monitor.proofs.InLine.{made_in, same_self}
use Rattle.monitor_fronts.specs.OwnEntry.{AtOwnEntry}
use Rattle.monitor_fronts.specs.Room.{at_point}
use Rattle.monitor_fronts.specs.Returned.{whether_by, whether_of}
use Rattle.monitor_fronts.proofs.Exactly.{first_plain, tried_words}

-- a call that was refused or missed didn't return yes
pub never_refused : (f : Fault) (b : Bool) → ◌≡◌ {A = Result Bool Fault} (Err f) (Ok b) → ⊥
never_refused f b q = cc

pub never_missed_and_got : ◌≡◌ {A = Result Bool Fault} (Ok false) (Ok true) → ⊥
never_missed_and_got q = cc

-- a point with one more entry comes after it
pub before_entry : (p : Point) (e : Entry) → Before p (with_entry e p)
unfolding Before
before_entry p e = inl (refl, (e ∷ [], refl))

-- where a step was recorded
pub entered_made : (did : Deed → Type 0) (old new : Shown) (step : Step) (e : Entry) →
    IsEntered did old step (Ok e) new → IsMade did old step e new.seen
entered_made did old new step e s =
    (made_in did old old new step e s.0 (same_self old) (before_refl old.seen) s.1 s.2).0

pub at_made : {fact : Point → Point → Type 0} (did : Deed → Type 0) (old new : Shown) (step : Step) (e : Entry) →
    (x : IsMade did old step e new.seen) → e.seat ≡ old.seat → fact x.front (with_entry e x.front) →
    AtOwnEntry fact old new
at_made {fact} did old new step e x own is =
    record { place = x.front; entry = e; own = own; begins = x.begins; there = x.there; is = is }

-- what holds after all that a pass has seen since holds after all that it had seen
pub at_later : {fact : Point → Point → Type 0} (old new : Shown) (p : Point) → Before old.seen p →
    AtOwnEntry fact (at_point old p) new → AtOwnEntry fact old new
at_later {fact} old new p before x =
    record {
      place = x.place;
      entry = x.entry;
      own = x.own;
      begins = before_trans old.seen p x.place before x.begins;
      there = x.there;
      is = x.is;
    }

-- the header of a history that comes before what a pass has seen is its lock's
pub place_header : (old new : Shown) (p : Point) → IsSame old new → IsSound new → Before p new.seen →
    p.base.header ≡ old.lock.header
unfolding header_of
place_header old new p same shows before =
    before_header p new.seen before ∙ (shows.header ∙ ap (λ (l : LockId). l.header) same.lock)

-- the words by which a seat gets what it asked for
abbrev pub gets : Word → Bool
gets word.Got = true
gets word.TryGot = true
gets word.Granted = true
gets _ = false

-- An entry by which this seat got what it asked for.
pub record IsGot (i : ℕ) (m : Mode) (n : ℕ) (e : Entry) : Type 0 where
  pub seat : e.seat ≡ i
  pub mode : e.mode ≡ m
  pub amount : e.n ≡ n
  pub word : gets e.word ≡ true

-- The entry that a call recorded when it got what it asked for, and where.
pub record Gets (did : Deed → Type 0) (old : Shown) (m : Mode) (n : ℕ) (e : Entry) (new : Shown) : Type 0 where
  pub step : Step
  pub made : IsMade did old step e new.seen
  pub got : IsGot old.seat m n e

got_as : (i : ℕ) (m : Mode) (n : ℕ) (e f : Entry) → e ≡ f → IsGot i m n f → IsGot i m n e
got_as i m n e f q x = subst (λ (z : Entry). IsGot i m n z) (sym q) x

got_plain : (i : ℕ) (w : Word) (m : Mode) (n : ℕ) → gets w ≡ true → IsGot i m n (plain i w m n)
got_plain i w m n t = record { seat = refl; mode = refl; amount = refl; word = t }

-- what a seat got could be had there
could_get : (s : Start) (h : List Entry) (step : Step) (e : Entry) → gets e.word ≡ true →
    entry_for s h e.seat step ≡ Ok (Some e) → could (counts s h) e.seat e.mode e.n ≡ true
could_get s h step e got made = by e.word got (known s h step e made)
  where
    by : (w : Word) → gets w ≡ true → KnownBy s h e w → could (counts s h) e.seat e.mode e.n ≡ true
    by word.Got t k = k.1
    by word.TryGot t k = k.1
    by word.Granted t k =
        let m : e.mode ≡ k.0.mode = ap (λ (x : Entry). x.mode) k.1.entry in
        let n : e.n ≡ k.0.n = ap (λ (x : Entry). x.n) k.1.entry in
        ap (λ x. could (counts s h) e.seat x e.n) m
        ∙ (ap (could (counts s h) e.seat k.0.mode) n ∙ ready_could s h e.seat k.0 k.2 k.1.stands)
    by _ t k = cc

pub got_there : (did : Deed → Type 0) (old : Shown) (new : Point) (m : Mode) (n : ℕ) (step : Step) (e : Entry) →
    (x : IsMade did old step e new) → IsGot old.seat m n e →
    could (counts (start_at x.front) x.front.entries) old.seat m n ≡ true
got_there did old new m n step e x got =
    let s = start_at x.front in
    let h = x.front.entries in
    let made : entry_for s h e.seat step ≡ Ok (Some e) =
    subst (λ (j : ℕ). entry_for s h j step ≡ Ok (Some e)) (sym got.seat) x.made in
    subst (λ (j : ℕ). could (counts s h) j m n ≡ true) got.seat
    (subst (λ (z : ℕ). could (counts s h) e.seat m z ≡ true) got.amount
    (subst (λ (z : Mode). could (counts s h) e.seat z e.n ≡ true) got.mode (could_get s h step e got.word made)))

-- an acquire that returned yes
at_once_got : (how : How) (i : ℕ) (w : Word) (m : Mode) (n : ℕ) → AtOnce how w → whether_by w end.None ≡ Ok true →
    IsGot i m n (plain i w m n)
at_once_got how i word.Got m n a t = got_plain i word.Got m n refl
at_once_got how i (word.Refused f) m n a t = absurd (never_refused f true t)
at_once_got how i word.Missed m n a t = absurd (never_missed_and_got t)
at_once_got how i _ m n a t = absurd a

end_got : (how : How) (i : ℕ) (m : Mode) (n : ℕ) (e : Entry) → IsEndFor how i (asking i m n) e →
    whether_of (Ok e) ≡ Ok true → IsGot i m n e
end_got how i m n e (inl q) t =
    got_as i m n e (ended i word.Granted (asking i m n) end.None) q
    record { seat = refl; mode = refl; amount = refl; word = refl }
end_got how i m n e (inr (inl q)) t =
    absurd (never_missed_and_got (ap (λ (z : Entry). whether_of (Ok z)) (sym q.0) ∙ t))
end_got how i m n e (inr (inr q)) t =
    absurd (never_refused fault.Interrupted true (ap (λ (z : Entry). whether_of (Ok z)) (sym q.0) ∙ t))

pub acquire_gets : (did : Deed → Type 0) (old new : Shown) (m : Mode) (n : ℕ) (how : How) (e : Entry) →
    IsAcquire did old m n how (Ok e) new → whether_of (Ok e) ≡ Ok true → Gets did old m n e new
acquire_gets did old new m n how e (inl (step, inl a, x)) t =
    let s = x.made in
    let made = subst (λ (z : Step). entry_for (start_at s.front) s.front.entries old.seat z ≡ Ok (Some e)) a.0
    s.made in
    let q = first_plain (start_at s.front) s.front.entries old.seat how m n e made in
    record {
      step = step;
      made = s;
      got = got_as old.seat m n e (plain old.seat e.word m n) q
          (at_once_got how old.seat e.word m n a.1 (sym (ap (λ (z : Entry). whether_by e.word z.end) q) ∙ t));
    }
acquire_gets did old new m n how e (inl (step, inr b, x)) t =
    absurd (never_refused fault.Interrupted true (ap (λ (w : Word). whether_by w e.end) (sym b.1) ∙ t))
acquire_gets did old new m n how e (inr x) t =
    record { step = x.step; made = x.made; got = end_got how old.seat m n e x.end t }

-- a try that returned yes
tried_got : (i : ℕ) (m : Mode) (n : ℕ) (w : Word) →
    (w ≡ word.Missed) ⊎ ((w ≡ word.Refused fault.TooManyHolds) ⊎ (w ≡ word.TryGot)) →
    whether_of (Ok (plain i w m n)) ≡ Ok true → IsGot i m n (plain i w m n)
tried_got i m n w (inl q) t =
    absurd (never_missed_and_got (ap (λ (z : Word). whether_by z end.None) (sym q) ∙ t))
tried_got i m n w (inr (inl q)) t =
    absurd (never_refused fault.TooManyHolds true (ap (λ (z : Word). whether_by z end.None) (sym q) ∙ t))
tried_got i m n w (inr (inr q)) t = got_plain i w m n (ap gets q)

pub try_gets : (did : Deed → Type 0) (old new : Shown) (m : Mode) (n : ℕ) (e : Entry) →
    IsEntered did old (Try m n) (Ok e) new → whether_of (Ok e) ≡ Ok true → Gets did old m n e new
try_gets did old new m n e s t =
    let made = entered_made did old new (Try m n) e s in
    let p = made.front in
    let i = idle_made (start_at p) p.entries old.seat (Try m n) e refl made.made in
    let k = counts (start_at p) p.entries in
    let w = tried_words (try_held_back k (first_mode (start_at p) p.entries) old.seat m) (limit k old.seat m)
    (could k old.seat m n) in
    record {
      step = Try m n;
      made = made;
      got = got_as old.seat m n e _ i.is
          (tried_got old.seat m n _ w (sym (ap (λ (z : Entry). whether_of (Ok z)) i.is) ∙ t));
    }

-- a release is not missed
word_told : (o : Object) (w : Word) → GaveWord o w → whether_by w end.None ≡ Ok false → ⊥
word_told o word.Gave g t = cc
word_told o (word.Refused f) g t = cc
word_told o word.Counted g t = cc
word_told o _ g t = absurd g

pub give_told : (did : Deed → Type 0) (old new : Shown) (m : Mode) (n : ℕ) (r : Result Entry Fault) →
    IsEntered did old (Give m n) r new → whether_of r ≡ Ok false → ⊥
give_told did old new m n (Ok e) s t =
    let made = entered_made did old new (Give m n) e s in
    let p = made.front in
    let i = idle_made (start_at p) p.entries old.seat (Give m n) e refl made.made in
    let o = p.base.header.object in
    word_told o _ (gave_word o (counts (start_at p) p.entries) old.seat m n)
    (sym (ap (λ (z : Entry). whether_of (Ok z)) i.is) ∙ t)
give_told did old new m n (Err f) s t = cc
