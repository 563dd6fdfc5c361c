use mir.Syntax.{w64}
use Rattle.std.proofs.Common.{nat_abs, ◌≡◌, ℕ, ◌<◌, [], length, take, drop, sym, ap, ◌∙◌, subst, arith}
use Rattle.std.proofs.lemmas.Int.{ints, to_z-of_z}
use Rattle.guarded.proofs.shelf.trade.Goals as goal

pub returns-then-free-lt0-clause-takes : goal.returns-then-free-lt0-clause-takes
returns-then-free-lt0-clause-takes g c n is few none = absurd (omega (arith, ints, is, c.if-free-lt0.true))

pub returns-then-free-lt0-clause-gives : goal.returns-then-free-lt0-clause-gives
returns-then-free-lt0-clause-gives g c is some = absurd (omega (arith, ints, is, c.if-free-lt0.true))

pub returns-then-free-lt0-clause-stays : goal.returns-then-free-lt0-clause-stays
returns-then-free-lt0-clause-stays g c is = absurd (omega (arith, ints, is, c.if-free-lt0.true))

pub returns-clause-takes : goal.returns-clause-takes
returns-clause-takes g c n is few none =
    subst (λ (m : ℕ). m < length c.args.here.now → c.args.there.now ≡ [] →
    (c.settle.new.here ≡ take m c.args.here.now) × (c.settle.new.there ≡ drop m c.args.here.now))
    (ap nat_abs (to_z-of_z w64 c.args.free c.ranges.free ∙ is)) c.settle.ensures.takes few none

pub returns-clause-gives : goal.returns-clause-gives
returns-clause-gives g c is some =
    c.settle.ensures.gives (sym (ap nat_abs (to_z-of_z w64 c.args.free c.ranges.free ∙ is))) some

pub returns-clause-stays : goal.returns-clause-stays
returns-clause-stays g c is =
    c.settle.ensures.stays (sym (ap nat_abs (to_z-of_z w64 c.args.free c.ranges.free ∙ is)))
