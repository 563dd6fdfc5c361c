use Rattle.std.proofs.Common.{rules, ◌≡◌, ◌∙◌, ℕ, Bool, true, false, Ok, Result, sym, ap, subst}
use Rattle.guarded.specs.Below.{Fault, is_done}
use Rattle.guarded.specs.declared.asking.PoolCall.TheVariants as asks
use Rattle.guarded.specs.Pooling.{Answers, gives_back}
use Rattle.guarded.specs.inner.Pooling.{has_after}
use Rattle.guarded.proofs.pool.Pool.release.Goals as goal

pub put_away-requires : goal.put_away-requires
put_away-requires g c =
    let is : c.whether.result ≡ Ok true = search rules in
    c.call-reply.ensures.ends.has ∙ ap (has_after (asks.Release _)) (sym c.whether.ensures ∙ is)

never : (n m : ℕ) (returned : Result Bool Fault) → n ≡ m → returned ≡ Ok false → Answers (asks.Release n) returned → ⊥
never n m returned same is answers = subst (λ (z : Result Bool Fault). Answers (asks.Release n) z) is answers

pub unreachable-requires : goal.unreachable-requires
unreachable-requires g c =
    let is : c.whether.result ≡ Ok false = search rules in
    never _ _ _ c.len-n.ensures.value (sym c.whether.ensures ∙ is) c.call-reply.ensures.ends.answers

pub returns-in-Err-clause-back : goal.returns-in-Err-clause-back
returns-in-Err-clause-back g c =
    let missed = ap is_done (sym c.whether.ensures ∙ c.in-Err.is) in
    let same = c.call-reply.ensures.ends.keeps missed in λ d. (same d).items

pub returns-in-Ok-true-clause-returned : goal.returns-in-Ok-true-clause-returned
returns-in-Ok-true-clause-returned g c =
    let is : c.whether.result ≡ Ok true = search rules in (
      c.call-reply.result,
      subst (λ (n : ℕ). gives_back (g.P.Parking.did c.args.parking.now) n c.args.self.now.when_full
          c.args.pass.now c.call-reply.result c.call-reply.new.pass) c.len-n.ensures.value c.call-reply.ensures.made,
      sym is ∙ c.whether.ensures,
    )

pub returns-in-Err-clause-returned : goal.returns-in-Err-clause-returned
returns-in-Err-clause-returned g c = (
  c.call-reply.result,
  subst (λ (n : ℕ). gives_back (g.P.Parking.did c.args.parking.now) n c.args.self.now.when_full
      c.args.pass.now c.call-reply.result c.call-reply.new.pass) c.len-n.ensures.value c.call-reply.ensures.made,
  sym c.in-Err.is ∙ c.whether.ensures,
)
