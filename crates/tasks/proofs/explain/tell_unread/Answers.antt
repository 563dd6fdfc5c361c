use Rattle.std.proofs.Common.{List, ℕ, inr, subst, sym}
use Rattle.tasks.specs.Explain.{IsUnreadTold}
use Rattle.tasks.proofs.explain.tell_unread.Goals as goal

pub returns-clause-says : goal.returns-clause-says
returns-clause-says g c =
    inr (
      _,
      subst (λ (t : List ℕ). IsUnreadTold c.args.notation c.args.name.now c.args.reason.now t)
          (sym c.deref.ensures.value) c.in_ok-told.ensures,
      c.write_told.ensures.says,
    )
