-- What a turn of the lock is to a load.
use Rattle.std.proofs.Common.{◌≡◌, ◌≢◌, ℕ, ◌-◌, ◌<◌, ◌==◌, Bool, true, false, ◌&&◌, not, cond, length, Some, List, [], ◌∷◌, ◌++◌, Result, Ok, Err, refl, sym, ap, ◌∙◌, subst, ℤ, pos, ◌+ℤ◌}
use Rattle.std.specs.List.{AllByRecursion}
use Rattle.monitor.specs.Below.{available, Entry, Mode, X, S, Word, Fault, Header, Object, Point, Answer, Recorded, Sleep, Step, Signal, SignalAll, Base, based, folded, opening_base, is_seat, Counts, counted, counted_after, counts, free, free_after, held, holds_after, owner, same_mode, is_lock, is_semaphore, opening_count, waits, sleepers, Start, opening, at_most_one, entry_for, plain, signals, CoreView, IsAnswered, IsTrimmed, counts_of, start_of, made_by, AreAlike, header_of, Agrees}
use Rattle.history.specs.declared.entry.End.TheVariants as end
use Rattle.history.specs.declared.entry.Word.TheVariants as word
use Rattle.history.specs.declared.fault.Fault.TheVariants as fault
use Rattle.history.proofs.Alike.{Alike}
use Rattle.history.proofs.Folding.{fold_alike}
use Rattle.history.proofs.GoodFolds.{owned_behind}
use Rattle.history.proofs.OpeningBase.{based_opening}
use Rattle.history.proofs.SleepLemmas.{held_other}
use Rattle.monitor.specs.Prelude.{IsLawfulCore, IsLawful, point_of, start_at, IsFree, IsOneOwner, IsTurn, Trades, free_of, holds_by, holds_of, is_refused, was_refused, opened_counts, Shown, IsSame, IsSound, IsStep}
use Rattle.monitor.specs.Load.{AreOf}
use Rattle.monitor.specs.declared.load.Holds.{Holds}
use Rattle.monitor.specs.inner.Load.{is_signal}
use Rattle.monitor.specs.inner.Stepping.{entry_in}
use Rattle.monitor.proofs.Acquiring.{idle_made}
use Rattle.monitor.proofs.Freeing.{turn_frees}
use Rattle.monitor.proofs.InLine.{records}
use Rattle.monitor.proofs.Letting.{turn_ends}
use Rattle.monitor.proofs.Sections.{Left, answered_shown, left}
use Rattle.monitor.proofs.Beside.{beside_of}

-- the holds of a seat at a point
abbrev pub holds_at : Point → ℕ → Mode → ℕ
holds_at p i m = held (start_at p) p.entries i m

held_others : (s : Start) (es h : List Entry) (i j : ℕ) (m : Mode) → j ≢ i → AllByRecursion (λ e. e.seat ≡ i) es →
    held s (es ++ h) j m ≡ held s h j m
held_others s [] h i j m ne own = refl
held_others s (e ∷ es) h i j m ne own =
    held_other s e (es ++ h) j m (λ q. ne (sym q ∙ own.0)) ∙ held_others s es h i j m ne own.1

one_owner : (p : Point) → IsLawful p → is_lock p.base.header.object ≡ true → IsOneOwner (counts (start_at p) p.entries)
one_owner p lawful lock =
    let v = owned_behind p.base lawful.may_fold.can.good p.entries lock lawful.legal lawful.seated in
    record { one = v.one; alone = v.alone }

-- a step of a seat is a turn
pub turn : (v w : CoreView) (i : ℕ) (step : Step) (r : Result Answer Fault) → IsLawfulCore v → IsLawfulCore w →
    i < v.header.seats → IsAnswered v i step r w → IsTurn i (counts_of v) (counts_of w)
turn v w i step r kept kept' below a =
    let l = left i (point_of v) (point_of w) (beside_of v) (beside_of w) step r
    (answered_shown v w i step r kept kept' a) in
    let object = ap (λ (b : Base). b.header.object) (sym l.base) in record {
      object = object;
      seats = ap (λ (b : Base). b.header.seats) (sym l.base);
      others = λ j m ne.
          ap (λ (b : Base). held (based b) w.entries j m) (sym l.base)
          ∙ (ap (λ es. held (based v.base) es j m) l.grown
          ∙ held_others (based v.base) (made_by r) v.entries i j m ne l.own);
      before = λ lock. one_owner (point_of v) kept.lawful lock;
      after = λ lock. one_owner (point_of w) kept'.lawful (ap is_lock object ∙ lock);
      step = step;
      free = λ t. turn_frees v w i step r kept kept' below a t;
      ends = λ lock some none. turn_ends v w i step r kept kept' a lock some none;
    }

pub turn_step : (v w : CoreView) (i : ℕ) (step : Step) (r : Result Answer Fault) (kept : IsLawfulCore v)
    (kept' : IsLawfulCore w) (below : i < v.header.seats) (a : IsAnswered v i step r w) →
    (turn v w i step r kept kept' below a).step ≡ step
unfolding turn
turn_step v w i step r kept kept' below a = refl

-- what a core tells of its free permits
pub told_free : (v : CoreView) (free : ℤ) → free ≡ available (start_of v) v.entries → IsFree free (counts_of v)
told_free v free is t = is ∙ ap (λ (b : Bool). cond b (counts_of v).free (pos 0)) t

-- what holds of the counts of a core holds of them where it was trimmed
pub counts_folded : (b : Base) (h : List Entry) → Alike b.header (based b) (based (folded b h)) h [] →
    AreAlike (counts (based b) h) (counts (based (folded b h)) [])
counts_folded b h same =
    record {
      object = refl;
      seats = refl;
      held = λ i m. ap (λ f. f i m) (sym same.holds);
      free = λ t. sym (same.permits t);
      count = sym same.left;
    }

pub rests_trimmed : (rests : Counts → Type 0) → ((k l : Counts) → AreAlike k l → rests k → rests l) →
    (v w : CoreView) (r : Result ℕ Fault) → IsLawfulCore v → IsTrimmed v r w → rests (counts_of v) → rests (counts_of w)
rests_trimmed rests alike v w (Ok n) kept t x =
    subst (λ (z : CoreView). rests (counts_of z)) (sym t.2)
    (let can = kept.lawful.may_fold.can in
    alike _ _ (counts_folded v.base v.entries (fold_alike v.base v.entries can.good can.legal can.seated)) x)
rests_trimmed rests alike v w (Err f) kept t x = subst (λ (z : CoreView). rests (counts_of z)) (sym t.2) x

-- an object as it is opened
pub rests_opened : (rests : Counts → Type 0) (v : CoreView) (k : Header) → v.base ≡ opening_base k →
    v.entries ≡ [] → rests (opened_counts k) → rests (counts_of v)
rests_opened rests v k base none x =
    subst rests
    (sym (ap (λ es. counts (based v.base) es) none
    ∙ (ap (λ b. counts (based b) []) base ∙ ap (λ (s : Start). counts s []) (based_opening k)))) x

-- a pass's holds are those of its seat in what it has seen
pub own_holds : (p : Point) (k : Header) (i : ℕ) (es : List Entry) → Agrees p i es → header_of p ≡ k →
    holds_by k i es ≡ holds_at p i
unfolding Agrees header_of
own_holds p k i es agrees is =
    let each : (m : Mode) → holds_by k i es m ≡ holds_at p i m = λ m.
    ap (λ (z : Header). held (opening z) es i m) (sym is) ∙ sym (agrees.holds m) in
    λ d m. each m d

pub true_holds : (x : Shown) → IsSound x → holds_of x ≡ holds_at x.seen x.seat
true_holds x t = own_holds x.seen x.lock.header x.seat x.mine t.agrees t.header

-- An entry by which nobody's holds, no free permits and no count change.
abbrev IsStill : Word → Type 0
IsStill w =
    ((o : Object) (n had : ℕ) → holds_after o w n had ≡ had)
    × ((n : ℕ) (had : ℤ) → free_after w n had ≡ had)
    × ((n : ℕ) → counted_after w n ≡ n)

same_either : {A : Type 0} (b : Bool) (x : A) → cond b x x ≡ x
same_either true x = refl
same_either false x = refl

still_alike : (s : Start) (h : List Entry) (e : Entry) → IsStill e.word →
    AreAlike (counts s h) (counts s (e ∷ h))
still_alike s h e still =
    record {
      object = refl;
      seats = refl;
      held = λ j m.
          ap (λ (n : ℕ). cond ((e.seat == j) && same_mode e.mode m) n (held s h j m))
          (still.0 s.header.object e.n (held s h j m))
          ∙ same_either ((e.seat == j) && same_mode e.mode m) (held s h j m);
      free = λ _. still.1 e.n (free s h);
      count = ap (λ (n : ℕ). opening_count s.header.object - n) (still.2 (counted s h));
    }

signals_still : (k : Counts) (w : Word) (n i c : ℕ) → IsStill w → IsStill (signals k w n i c).word
signals_still k w n i c still = by (not (is_seat (owner k) i))
  where
    by : (b : Bool) →
        IsStill (cond b (plain i (word.Refused fault.NotOwner) X 1)
        (record { seat = i; word = w; mode = X; n = n; at = c; end = end.None })).word
    by true = (λ o n had. refl, λ n had. refl, λ n. refl)
    by false = still

signal_still : (s : Start) (h : List Entry) (i : ℕ) (step : Step) (e : Entry) → is_signal step ≡ true →
    entry_for s h i step ≡ Ok (Some e) → IsStill e.word
signal_still s h i (Signal c) e signal made =
    subst (λ (z : Entry). IsStill z.word) (sym (idle_made s h i (Signal c) e refl made).is)
    (signals_still (counts s h) word.Signal (at_most_one (length (sleepers s h c))) i c
    (λ o n had. refl, λ n had. refl, λ n. refl))
signal_still s h i (SignalAll c) e signal made =
    subst (λ (z : Entry). IsStill z.word) (sym (idle_made s h i (SignalAll c) e refl made).is)
    (signals_still (counts s h) word.SignalAll (length (sleepers s h c)) i c
    (λ o n had. refl, λ n had. refl, λ n. refl))
signal_still s h i _ e signal made = cc

pub signal_idle : (step : Step) → is_signal step ≡ true → waits step ≡ false
signal_idle (Signal c) signal = refl
signal_idle (SignalAll c) signal = refl
signal_idle _ signal = cc

-- a signal leaves the load where it is
pub rests_signalled : (rests : Counts → Type 0) → ((k l : Counts) → AreAlike k l → rests k → rests l) →
    (v w : CoreView) (i : ℕ) (step : Step) (r : Result Answer Fault) → IsLawfulCore v → IsLawfulCore w →
    is_signal step ≡ true → IsAnswered v i step r w → rests (counts_of v) → rests (counts_of w)
rests_signalled rests alike v w i step r kept kept' signal answered x =
    subst (λ (b : Base). rests (counts (based b) w.entries)) l.base
    (subst (λ (es : List Entry). rests (counts (based v.base) es)) (sym l.grown) (by r refl))
  where
    l : Left i (point_of v) (point_of w) r
    l =
        left i (point_of v) (point_of w) (beside_of v) (beside_of w) step r
        (answered_shown v w i step r kept kept' answered)

    by : (z : Result Answer Fault) → r ≡ z → rests (counts (based v.base) (made_by z ++ v.entries))
    by (Err f) is = x
    by (Ok Sleep) is = x
    by (Ok (Recorded e name)) is =
        let made =
        records v w i step e name (subst (λ (z : Result Answer Fault). IsAnswered v i step z w) is answered) in
        alike _ _ (still_alike (based v.base) v.entries e
        (signal_still (based v.base) v.entries i step e signal made.made)) x

-- where holds and free permits stay, a load finds them as they were
pub holds_stay : (before after : Holds) (h i : Mode → ℕ) → AreOf before h → AreOf after i → i ≡ h → before ≡ after
holds_stay before after h i b a same = λ d.
    record {
      exclusive = (b.0 ∙ (sym (ap (λ (f : Mode → ℕ). f X) same) ∙ sym a.0)) d;
      shared = (b.1 ∙ (sym (ap (λ (f : Mode → ℕ). f S) same) ∙ sym a.1)) d;
    }

pub free_stays : (i : ℕ) (k l : Counts) → IsTurn i k l → (free : ℤ) → IsFree free l → l.free ≡ k.free → IsFree free k
free_stays i k l turn free told same t = told (ap is_semaphore turn.object ∙ t) ∙ same

-- a pass that is as it was has its load as it was
pub unmoved : {A : Type 0} (fit : A → Type 0) (counted : Bool) (amount : A → ℕ) (x : A) (old new : Shown) →
    new ≡ old → Trades fit counted amount x old x new
unmoved fit true amount x old new same =
    ((ap (λ (s : Shown). pos (amount x) +ℤ free_of s) same, λ _. refl, λ k. k), λ _ _. refl)
unmoved fit false amount x old new same = (λ k. k, λ _ _. refl)

refused_still : (w : Word) → is_refused w ≡ true → IsStill w
refused_still (word.Refused f) is = (λ o n had. refl, λ n had. refl, λ n. refl)
refused_still _ is = cc

left_alone : (k : Header) (i : ℕ) (es : List Entry) (r : Result Answer Fault) → was_refused (entry_in r) ≡ true →
    (holds_by k i (made_by r ++ es) ≡ holds_by k i es) × (free (opening k) (made_by r ++ es) ≡ free (opening k) es)
left_alone k i es (Ok (Recorded e name)) refused =
    let still = refused_still e.word refused in
    (λ d m. (still_alike (opening k) es e still).held i m d, still.1 e.n (free (opening k) es))
left_alone k i es (Ok Sleep) refused = (refl, refl)
left_alone k i es (Err f) refused = (refl, refl)

-- a step that failed leaves the load of its pass
pub refused_stays : {A : Type 0} (fit : A → Type 0) (counted : Bool) (amount : A → ℕ) (x y : A) (old new : Shown)
    (step : Step) (r : Result Answer Fault) → IsSame old new → IsStep old step r new →
    was_refused (entry_in r) ≡ true → Trades fit counted amount x old y new → y ≡ x
refused_stays fit counted amount x y old new step r same s refused t =
    let alone = left_alone old.lock.header old.seat old.mine r refused in
    t.1 ((λ d. holds_by (same.lock d).header (same.seat d) (s.mine d)) ∙ alone.0)
    ((λ d. free (opening (same.lock d).header) (s.mine d)) ∙ alone.1)
