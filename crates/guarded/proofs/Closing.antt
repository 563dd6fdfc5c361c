-- A lock that no pass holds has its value as it is closed.
use Rattle.std.proofs.Common.{◌≡◌, ◌⊎◌, ⊎_elim, ◌==◌, ℕ, ◌+◌, ◌<◌, ◌≤◌, Bool, true, false, cond, List, [], ◌∷◌, Option, Some, None, IsSome, refl, sym, ap, ◌∙◌, subst, arith, eqb-true}
use Rattle.std.specs.List.{All}
use Rattle.std.proofs.lemmas.List.Elements.{All-head, All-tail}
use Rattle.history.proofs.Folding.{none_beyond}
use Rattle.history.proofs.OneOwner.{cases_below}
use Rattle.history.specs.declared.header.Header.{Header}
use Rattle.monitor.specs.Closing.{Closes, IsWithin, left_by, passes_of}
use Rattle.monitor.specs.declared.closing.Closed.{Closed}
use Rattle.monitor.proofs.Loads.{own_holds}
use Rattle.history.specs.declared.point.Point.{Point}
use Rattle.monitor.proofs.Opening.{header_shown}
use Rattle.guarded.specs.Below.{Mode, X, counts, held, holds, LockId, Shown, start_at, start_on}
use Rattle.guarded.specs.Stowed.{Rests}

-- a seat of which a pass is there holds nothing, if no pass does
seat_free : (q : Point) (lock : LockId) (i : ℕ) (ps : List Shown) → q.base.header ≡ lock.header →
    All (λ p. p.lock ≡ lock) ps → All (λ p. IsWithin q p) ps → All (λ p. holds p ≡ 0) ps → 0 < passes_of i ps →
    held (start_at q) q.entries i X ≡ 0
seat_free q lock i [] header of within free some = absurd (omega (arith, some))
seat_free q lock i (p ∷ ps) header of within free some =
    by (i == p.seat) refl some (seat_free q lock i ps header (All-tail (λ p. p.lock ≡ lock) p ps of)
    (All-tail (λ p. IsWithin q p) p ps within) (All-tail (λ p. holds p ≡ 0) p ps free))
  where
    here : i ≡ p.seat → held (start_at q) q.entries i X ≡ 0
    here is =
        let own = own_holds q p.lock.header p.seat p.mine (All-head (λ p. IsWithin q p) p ps within).1
        (header_shown q ∙ (header ∙ sym (ap (λ (l : LockId). l.header) (All-head (λ p. p.lock ≡ lock) p ps of)))) in
        ap (λ (j : ℕ). held (start_at q) q.entries j X) is
        ∙ (sym (ap (λ (f : Mode → ℕ). f X) own) ∙ All-head (λ p. holds p ≡ 0) p ps free)

    by : (b : Bool) → (i == p.seat) ≡ b → 0 < passes_of i ps + cond b 1 0 →
        (0 < passes_of i ps → held (start_at q) q.entries i X ≡ 0) → held (start_at q) q.entries i X ≡ 0
    by true is one rest = here (eqb-true i p.seat is)
    by false is more rest = rest (omega (arith, more))

-- so the value is there
pub has_value : {T : Type 0} (lock : LockId) (ps : List Shown) (left : Closed) (value : Option T) →
    Closes lock ps left → All (λ p. p.lock ≡ lock) ps →
    Rests value (counts (start_on lock.header left.history) left.history.entries) → All (λ p. holds p ≡ 0) ps →
    IsSome value
has_value lock ps left (Some x) closes of rests free = refl
has_value lock ps left None closes of rests free =
    let q : Point = left_by lock left.history in
    let lawful = closes.lawful in
    let good = lawful.may_fold.can.good in
    let header : q.base.header ≡ lock.header = closes.based.1 in
    let i = rests.stowed.0 in
    let some : 0 < held (start_at q) q.entries i X = rests.stowed.1 in
    let none : held (start_at q) q.entries i X ≡ 0 =
    ⊎_elim
    (λ below.
    seat_free q lock i ps header of closes.within free
    (let one = closes.each i (subst (λ (k : Header). i < k.seats) header below) in omega (arith, one)))
    (λ beyond. none_beyond q.base q.entries good.seats lawful.seated i beyond X) (cases_below i q.base.header.seats) in
    absurd (omega (arith, some, none))
