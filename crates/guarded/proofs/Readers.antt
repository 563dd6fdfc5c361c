-- What the calls of readers leave of a pass's holds.
use Rattle.std.proofs.Common.{◌≡◌, ℕ, ◌<◌, ap, subst, arith}
use Rattle.guarded.specs.Below.{Mode, X, S, counts, held, opening, start_at, holds_of, IsLook, Shown, IsSound, holds}
use Rattle.history.proofs.GoodFolds.{owned_behind}
use Rattle.monitor.proofs.Loads.{true_holds}
use Rattle.guarded.specs.Prelude.{reads, IsFull, Slot, Empty, Full, Lent}
use Rattle.guarded.specs.inner.Stowed.{Lies}

-- a look leaves a pass's holds
pub looks_on : (old new : Shown) → IsLook old new → (reads new ≡ reads old) × (holds new ≡ holds old)
looks_on old new l =
    let each : (m : Mode) → holds_of new m ≡ holds_of old m = λ m.
    λ d. held (opening (l.lock d).header) (l.mine d) (l.seat d) m in
    (each S, each X)

-- a reader that doesn't write finds the value under the lock
pub value_lies : {T I : Type 0} (inv : T → Type 0) (p : Shown) (load : Slot T I) → IsSound p → 0 < reads p →
    holds p ≡ 0 → Lies inv load (counts (start_at p.seen) p.seen.entries) → (IsFull load → ⊥) → ⊥
value_lies inv p (Full x) shows some none lies never = never tt
value_lies inv p (Lent l) shows some none lies never = lies.1
value_lies inv p Empty shows some none lies never =
    let s = p.seen in let rests = lies.0 in
    let good = shows.lawful in
    let owned = owned_behind s.base good.may_fold.can.good s.entries rests.lock good.legal good.seated in
    let own = true_holds p shows in
    let here : 0 < held (start_at s) s.entries p.seat S = subst (λ (f : Mode → ℕ). 0 < f S) own some in
    let away : held (start_at s) s.entries p.seat X ≡ 0 = subst (λ (f : Mode → ℕ). f X ≡ 0) own none in
    let writer = rests.stowed in
    let same = owned.alone writer.0 p.seat writer.1 here in
    let had = ap (λ (j : ℕ). held (start_at s) s.entries j X) same in
    let writes = writer.1 in
    omega (arith, had, writes, away)
