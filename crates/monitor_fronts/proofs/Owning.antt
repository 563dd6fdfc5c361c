-- The release of a hold is recorded: whoever owns is idle, and its release was owed room and memory.
use Rattle.std.proofs.Common.{◌≡◌, ℕ, ◌+◌, ◌<◌, Bool, true, false, not, cond, List, Option, Some, Result, Ok, Err, IsOk, refl, ap, ◌∙◌, sym, subst, arith}
use Rattle.monitor_fronts.specs.Below.{Entry, Mode, X, S, Word, Fault, Header, Object, Lock, ReadWrite, Semaphore, Latch, Point, Give, counts, held, is_bad_number, lacks_mode, is_lock, Phase, Idle, phase, suits, Start, opening, entry_for, phase_entry, plain, Deed, header_of, IsLawful, start_at, Shown, IsSound, IsEntered, IsSame, holds_of}
use Rattle.history.specs.declared.entry.Word.TheVariants as word
use Rattle.history.specs.declared.fault.Fault.TheVariants as fault
use Rattle.history.proofs.IdleOwners.{owner_idle}
use Rattle.word_lock.proofs.PointLaws.{before_header}
use Rattle.monitor.proofs.Loads.{own_holds}
use Rattle.monitor.proofs.Opening.{header_shown}
use Rattle.monitor_fronts.specs.Holding.{Takes, gained, holds, with_yes}
use Rattle.monitor_fronts.specs.Returned.{done_of}
use Rattle.monitor_fronts.proofs.Counting.{of_own}
use Rattle.monitor_fronts.proofs.Exactly.{gave_is, gave_own, give_takes}

-- an owner's give makes one entry
has_mode : (o : Object) → is_lock o ≡ true → lacks_mode o X ≡ false
has_mode (Lock p) q = refl
has_mode (ReadWrite p) q = refl
has_mode (Semaphore p c) q = cc
has_mode (Latch c) q = cc

has_amount : (o : Object) → is_lock o ≡ true → is_bad_number o 1 ≡ false
has_amount (Lock p) q = refl
has_amount (ReadWrite p) q = refl
has_amount (Semaphore p c) q = cc
has_amount (Latch c) q = cc

give_made : (s : Start) (h : List Entry) (i : ℕ) → is_lock s.header.object ≡ true → 0 < held s h i X →
    phase s h i ≡ Idle → entry_for s h i (Give X 1) ≡ Ok (Some (plain i word.Gave X 1))
give_made s h i lock some idle =
    let rest : Phase → Result (Option Entry) Fault = λ ph.
    cond (not (suits ph (Give X 1))) (Err fault.OutOfPhase) (Ok (phase_entry s h i (Give X 1) ph)) in
    let amount : Bool → Result (Option Entry) Fault = λ t.
    cond t (Err fault.BadAmount) (rest (phase s h i)) in
    ap (λ (t : Bool). cond t (Err fault.WrongMode) (amount (is_bad_number s.header.object 1)))
    (has_mode s.header.object lock)
    ∙ (ap amount (has_amount s.header.object lock)
    ∙ (ap rest idle
    ∙ ap (λ (w : Word). Ok (Some (plain i w X 1))) (gave_own s.header.object (counts s h) i X lock some)))

pub point_gives : (p : Point) (i : ℕ) → IsLawful p → is_lock p.base.header.object ≡ true →
    0 < held (start_at p) p.entries i X →
    entry_for (start_at p) p.entries i (Give X 1) ≡ Ok (Some (plain i word.Gave X 1))
point_gives p i l lock some =
    give_made (start_at p) p.entries i lock some
    (owner_idle p.base p.entries l.may_fold.can i some)

-- An owner's give is recorded: it finds room and memory, since it was owed.
pub give_recorded : (did : Deed → Type 0) (old new : Shown) (r : Result Entry Fault) →
    is_lock old.lock.header.object ≡ true → IsSame old new → IsSound old →
    IsEntered did old (Give X 1) r new → 0 < holds old → IsOk r
give_recorded did old new (Ok e) lock same shows s some = refl
give_recorded did old new (Err f) lock same shows s some =
    let header : header_of s.found ≡ old.lock.header =
    sym (before_header old.seen s.found s.begins) ∙ shows.header in
    let is : is_lock s.found.base.header.object ≡ true =
    ap (λ (k : Header). is_lock k.object) (sym (header_shown s.found) ∙ header) ∙ lock in
    let own = own_holds s.found old.lock.header old.seat old.mine s.agrees header in
    let there : 0 < held (start_at s.found) s.found.entries old.seat X =
    subst (λ (f : Mode → ℕ). 0 < f X) own some in
    s.owed (plain old.seat word.Gave X 1, point_gives s.found old.seat s.lawful is there, is)

-- a release that was recorded takes a hold
take_as : (m : Mode) (did : Deed → Type 0) (old new : Shown) (e : Entry) (told : Result (Unit {0}) Fault) →
    is_lock old.lock.header.object ≡ true → IsSame old new → IsSound new →
    IsEntered did old (Give m 1) (Ok e) new → 0 < holds_of old m → told ≡ done_of (Ok e) →
    Takes m old (with_yes told) new
take_as m did old new e told lock same shows s some is =
    let takes = give_takes did old new m e lock same shows s some in
    let one : gained (with_yes told) ≡ 1 =
    ap (λ (z : Result (Unit {0}) Fault). gained (with_yes z)) is
    ∙ ap (λ (z : Entry). gained (with_yes (done_of (Ok z)))) (gave_is did old new m e lock same shows s some) in
    let left = takes.0 in record { own = omega (arith, left, one); others = takes.1 }

-- so an owner's unlock succeeds
pub give_is_ok : (did : Deed → Type 0) (old new : Shown) (r : Result Entry Fault) (told : Result (Unit {0}) Fault) →
    is_lock old.lock.header.object ≡ true → IsSame old new → IsSound old → IsSound new →
    IsEntered did old (Give X 1) r new → 0 < holds old → told ≡ done_of r → IsOk told
give_is_ok did old new (Ok e) told lock same was shows s some is =
    subst (λ (z : Result (Unit {0}) Fault). IsOk z)
    (sym (is ∙ ap (λ (z : Entry). done_of (Ok z)) (gave_is did old new X e lock same shows s some))) refl
give_is_ok did old new (Err f) told lock same was shows s some is =
    absurd (let ok = give_recorded did old new (Err f) lock same was s some in cc)

-- it takes one hold
pub give_loses : (did : Deed → Type 0) (old new : Shown) (r : Result Entry Fault) →
    is_lock old.lock.header.object ≡ true → IsSame old new → IsSound old → IsSound new →
    IsEntered did old (Give X 1) r new → 0 < holds old → holds new + 1 ≡ holds old
give_loses did old new (Ok e) lock same was shows s some = (give_takes did old new X e lock same shows s some).0
give_loses did old new (Err f) lock same was shows s some =
    absurd (let ok = give_recorded did old new (Err f) lock same was s some in cc)

-- and leaves those in the other mode
pub write_takes : (did : Deed → Type 0) (old new : Shown) (r : Result Entry Fault)
    (told : Result (Unit {0}) Fault) → is_lock old.lock.header.object ≡ true → IsSame old new → IsSound old →
    IsSound new → IsEntered did old (Give X 1) r new → 0 < holds old → told ≡ done_of r →
    Takes X old (with_yes told) new
write_takes did old new (Ok e) told lock same was shows s some is =
    take_as X did old new e told lock same shows s some is
write_takes did old new (Err f) told lock same was shows s some is =
    absurd (let ok = give_recorded did old new (Err f) lock same was s some in cc)

-- a reader's release takes a read hold if it is recorded
pub read_takes : (did : Deed → Type 0) (old new : Shown) (r : Result Entry Fault)
    (told : Result (Unit {0}) Fault) → is_lock old.lock.header.object ≡ true → IsSame old new → IsSound new →
    IsEntered did old (Give S 1) r new → 0 < holds_of old S → told ≡ done_of r → Takes S old (with_yes told) new
read_takes did old new (Ok e) told lock same shows s some is =
    take_as S did old new e told lock same shows s some is
read_takes did old new (Err f) told lock same shows s some is =
    let own : (m : Mode) → holds_of new m ≡ holds_of old m = λ m.
    of_own old new m same ∙ ap (λ (l : List Entry). held (opening old.lock.header) l old.seat m) s.mine in
    let none : gained (with_yes told) ≡ 0 = ap (λ (z : Result (Unit {0}) Fault). gained (with_yes z)) is in
    let reads_as = own S in
    record { own = omega (arith, reads_as, none); others = own X }
