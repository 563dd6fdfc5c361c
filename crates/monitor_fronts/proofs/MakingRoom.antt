-- What a call keeps, whether it made room or not.
use Rattle.std.proofs.Common.{◌≡◌, ◌≢◌, ◌⊎◌, inl, inr, ℕ, zero, suc, ◌+◌, Bool, true, false, Result, Ok, Err, refl, sym, ap, ◌∙◌, subst}
use Rattle.monitor_fronts.specs.Below.{Entry, Fault, HistoryFull, Mode, X, Point, Step, Give, Try, Deed, Before, is_timed, holds_of, Shown, IsSame, How}
use Rattle.monitor.specs.inner.Load.{is_signal}
use Rattle.monitor_fronts.specs.FrontCalls.{Acquires, Awaits, Steps}
use Rattle.word_lock.proofs.PointLaws.{before_refl, before_trans}
use Rattle.monitor_fronts.specs.Room.{GivesUp, InRoom, MadeRoom, MonitorCall, at_point}
use Rattle.monitor_fronts.specs.declared.room.WhenFull.{WhenFull}
use Rattle.monitor_fronts.specs.declared.room.WhenFull.TheVariants.{Refuse, Trim}
use Rattle.monitor_fronts.specs.Holding.{Adds, AddsIn, gained, holds, with_yes}
use Rattle.monitor_fronts.specs.Returned.{done_of, whether_of, without}
use Rattle.monitor_fronts.proofs.Counting.{await_holds, of_lock, signal_keeps}
use Rattle.monitor_fronts.proofs.Exactly.{acquire_gains, by_own, still, try_gains, waits_to_the_end}
use Rattle.monitor_fronts.proofs.OwnEntries.{give_told}

-- where a call is made anew, that is after all that the pass had seen
made_before : (times : ℕ) (call : MonitorCall) (old : Shown) (p : Point) → MadeRoom times call old p →
    Before old.seen p
made_before zero call old p is = subst (λ (z : Point). Before old.seen z) (sym is) (before_refl old.seen)
made_before (suc times) call old p made =
    let back = made.2.1 in
    before_trans old.seen made.0 p (made_before times call old made.0 made.1)
    (before_trans made.0 back.full p back.begins back.trim.after)

-- What holds of a call from any pass with the same own entries, which has seen no less, holds of one that makes room,
-- if it holds of each that recorded nothing and failed: a trim adds no entry of the pass.
pub in_room : (is : Shown → Result Entry Fault → Type 0) (w : WhenFull) (call : MonitorCall) (old new : Shown)
    (r : Result Entry Fault) → IsSame old new →
    ((p : Point) → Before old.seen p → is (at_point old p) r → is old r) →
    ((f : Fault) → new.mine ≡ old.mine → Before old.seen new.seen → is old (Err f)) →
    ((from : Shown) (s : Result Entry Fault) → from.lock ≡ old.lock → IsSame from new → call from s new → is from s) →
    InRoom w call old r new → is old r
in_room is Refuse call old new r same later none each x = each old r refl same x
in_room is Trim call old new r same later none each x = by x.ends
  where
    begins : Before old.seen x.from
    begins = made_before x.times call old x.from x.made

    by : (call (at_point old x.from) r new × (r ≢ Err HistoryFull)) ⊎ GivesUp call (at_point old x.from) r new →
        is old r
    by (inl y) =
        later x.from begins (each (at_point old x.from) r refl record { lock = same.lock; seat = same.seat } y.0)
    by (inr y) =
        let back = y.tried in
        subst (λ (s : Result Entry Fault). is old s) (sym y.is)
        (none y.fault back.trim.mine
        (before_trans old.seen x.from new.seen begins
        (before_trans x.from back.full new.seen back.begins back.trim.after)))

-- an acquire in a mode adds a hold there exactly where it says so, and none in the other
pub acquires_add : (w : WhenFull) (did : Deed → Type 0) (m : Mode) (n : ℕ) (how : How) (old new : Shown)
    (r : Result Entry Fault) → IsSame old new → Acquires w did m n how old new r →
    n ≡ 1 → AddsIn m old (whether_of r) new
acquires_add w did m n how old new r same x is = λ lock.
    in_room (λ (from : Shown). λ (z : Result Entry Fault). Adds m from (whether_of z) new) w _ old new r same
    (λ p b y. record { own = y.own; others = y.others }) (λ f none b. still old new m f same none)
    (λ from z of at c. acquire_gains did from new m how z (of_lock of lock) at c)
    (subst (λ (k : ℕ). Acquires w did m k how old new r) is x)

pub tries_add : (w : WhenFull) (did : Deed → Type 0) (step : Step) (m : Mode) (old new : Shown)
    (r : Result Entry Fault) → IsSame old new → Steps w did step old new r →
    step ≡ Try m 1 → AddsIn m old (whether_of r) new
tries_add w did step m old new r same x is = λ lock.
    in_room (λ (from : Shown). λ (z : Result Entry Fault). Adds m from (whether_of z) new) w _ old new r same
    (λ p b y. record { own = y.own; others = y.others }) (λ f none b. still old new m f same none)
    (λ from z of at c. try_gains did from new m z (of_lock of lock) at c)
    (subst (λ (s : Step). Steps w did s old new r) is x)

-- a pass with the same own entries has as many holds
holds_stay : (old new : Shown) → IsSame old new → new.mine ≡ old.mine → holds new ≡ holds old
holds_stay old new same mine = by_own old new X old.mine same mine

-- an await keeps the holds
pub awaits_keep : (w : WhenFull) (did : Deed → Type 0) (condition : ℕ) (how : How) (old new : Shown)
    (r : Result Entry Fault) → IsSame old new → Awaits w did condition how old new r → holds new ≡ holds old
awaits_keep w did condition how old new r same x =
    in_room (λ (from : Shown). λ (z : Result Entry Fault). holds new ≡ holds from) w _ old new r same
    (λ p b y. y) (λ f none b. holds_stay old new same none) (λ from z of at c. await_holds did from new condition how z at c) x

-- and so does a signal
pub signals_keep : (w : WhenFull) (did : Deed → Type 0) (step : Step) (old new : Shown)
    (r : Result Entry Fault) → IsSame old new → Steps w did step old new r →
    is_signal step ≡ true → holds new ≡ holds old
signals_keep w did step old new r same x signal =
    in_room (λ (from : Shown). λ (z : Result Entry Fault). holds new ≡ holds from) w _ old new r same
    (λ p b y. y) (λ f none b. holds_stay old new same none) (λ from z of at c. signal_keeps did from new step z signal at c) x

-- an acquire without a time limit isn't told as missed
pub never_missed : (w : WhenFull) (did : Deed → Type 0) (m : Mode) (n : ℕ) (how : How) (old new : Shown)
    (r : Result Entry Fault) → (is_timed how → ⊥) → IsSame old new → Acquires w did m n how old new r →
    whether_of r ≡ Ok false → ⊥
never_missed w did m n how old new r untimed same x =
    in_room (λ (from : Shown). λ (z : Result Entry Fault). whether_of z ≡ Ok false → ⊥) w _ old new r same
    (λ p b y. y) (λ f none b told. let no : whether_of (Err f) ≡ Ok false = told in cc)
    (λ from z of at c. waits_to_the_end did from new m n how z untimed c) x

-- a call that isn't missed says yes if it was made
yes_again : (t : Result Bool Fault) → (t ≡ Ok false → ⊥) → with_yes (without t) ≡ t
yes_again (Err f) never = refl
yes_again (Ok true) never = refl
yes_again (Ok false) never = absurd (never refl)

pub untimed_told : (w : WhenFull) (did : Deed → Type 0) (m : Mode) (n : ℕ) (how : How) (old new : Shown)
    (r : Result Entry Fault) (told : Result (Unit {0}) Fault) → (is_timed how → ⊥) → IsSame old new →
    Acquires w did m n how old new r → told ≡ done_of r → with_yes told ≡ whether_of r
untimed_told w did m n how old new r told untimed same x is =
    ap (λ (z : Result (Unit {0}) Fault). with_yes z) is
    ∙ yes_again (whether_of r) (never_missed w did m n how old new r untimed same x)

pub gives_told : (w : WhenFull) (did : Deed → Type 0) (m : Mode) (n : ℕ) (old new : Shown) (r : Result Entry Fault)
    (told : Result (Unit {0}) Fault) → IsSame old new → Steps w did (Give m n) old new r → told ≡ done_of r →
    with_yes told ≡ whether_of r
gives_told w did m n old new r told same x is =
    ap (λ (z : Result (Unit {0}) Fault). with_yes z) is ∙ yes_again (whether_of r) never
  where
    never : whether_of r ≡ Ok false → ⊥
    never =
        in_room (λ (from : Shown). λ (z : Result Entry Fault). whether_of z ≡ Ok false → ⊥) w _ old new r same
        (λ p b y. y) (λ f none b told. let no : whether_of (Err f) ≡ Ok false = told in cc)
        (λ from z of at c. give_told did from new m n z c) x

same_told : (t : Result Bool Fault) → (t ≡ Ok false → ⊥) → gained (with_yes (without t)) ≡ gained t
same_told (Err f) never = refl
same_told (Ok true) never = refl
same_told (Ok false) never = absurd (never refl)

-- an acquire without a time limit, of which only is told that it got the lock
pub untimed_adds : (w : WhenFull) (did : Deed → Type 0) (m : Mode) (how : How) (old new : Shown)
    (r : Result Entry Fault) (told : Result (Unit {0}) Fault) → (is_timed how → ⊥) → IsSame old new →
    Acquires w did m 1 how old new r → told ≡ done_of r → AddsIn m old (whether_of r) new →
    AddsIn m old (with_yes told) new
untimed_adds w did m how old new r told untimed same x is adds = λ lock.
    let a = adds lock in
    let says : gained (with_yes told) ≡ gained (whether_of r) =
    ap (λ (z : Result (Unit {0}) Fault). gained (with_yes z)) is
    ∙ same_told (whether_of r) (never_missed w did m 1 how old new r untimed same x) in
    record { own = a.own ∙ ap (λ (n : ℕ). holds_of old m + n) (sym says); others = a.others }
