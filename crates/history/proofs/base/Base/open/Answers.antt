use Rattle.std.proofs.Common.{[], subst, sym, ◌∙◌}
use Rattle.history.specs.Prelude.{Base, nothing, MayFold}
use Rattle.history.proofs.Folding.{each_same}
use Rattle.history.proofs.FoldSteps.{may_open}
use Rattle.history.proofs.base.Base.open.Goals as goal

pub returns-clause-opened : goal.returns-clause-opened
returns-clause-opened c =
    let seats = c.in_ok-seats.ensures.items_if_clones_equal (λ y same. same)
    ∙ sym (each_same c.args.header.now.seats nothing) in
    λ j. record {
      header = c.args.header.now;
      entries = 0;
      seats = seats j;
      unheld = 0;
      count = c.opening_count.ensures j;
      line = c.in_ok-line.ensures.items j;
      sleepers = c.in_ok-sleepers.ensures.empty j;
    }

pub returns-clause-may_fold : goal.returns-clause-may_fold
returns-clause-may_fold c =
    λ range. subst (λ (b : Base). MayFold b []) (sym (returns-clause-opened c))
    (may_open c.args.header.now range)
