use Rattle.std.proofs.Common.{rules, ◌≡◌, ◌∙◌, Bool, true, false, Ok, Result, length, sym, ap, subst}
use Rattle.history.specs.declared.fault.Fault.{Fault}
use Rattle.guarded.specs.Pooling.{Answers}
use Rattle.guarded.specs.inner.Pooling.{has_after}
use Rattle.guarded.proofs.Shelving.{in_none}
use Rattle.guarded.proofs.pool.Pool.take.Goals as goal

pub call-reply-requires-clause-brings : goal.call-reply-requires-clause-brings
call-reply-requires-clause-brings g c = ap length c.new.ensures ∙ sym c.requires.brings

pub call-reply-requires-clause-kept : goal.call-reply-requires-clause-kept
call-reply-requires-clause-kept g c = in_none g.I.Keeps.invariant _ c.new.ensures

pub returns-in-Ok-true-clause-items : goal.returns-in-Ok-true-clause-items
returns-in-Ok-true-clause-items g c =
    let is : c.whether.result ≡ Ok true = search rules in
    c.call-reply.ensures.ends.has ∙ ap (has_after c.args.asked) (sym c.whether.ensures ∙ is)

pub put_away-requires : goal.put_away-requires
put_away-requires g c =
    let is : c.whether.result ≡ Ok false = search rules in
    c.call-reply.ensures.ends.has ∙ (ap (has_after c.args.asked) (sym c.whether.ensures ∙ is) ∙ c.requires.brings)

pub returns-in-Ok-false-clause-answers : goal.returns-in-Ok-false-clause-answers
returns-in-Ok-false-clause-answers g c =
    let is : c.whether.result ≡ Ok false = search rules in
    subst (λ (z : Result Bool Fault). Answers c.args.asked z) (sym c.whether.ensures ∙ is)
    c.call-reply.ensures.ends.answers

pub put_away-requires-in-Err : goal.put_away-requires-in-Err
put_away-requires-in-Err g c =
    c.call-reply.ensures.ends.has
    ∙ (ap (has_after c.args.asked) (sym c.whether.ensures ∙ c.in-Err.is) ∙ c.requires.brings)
