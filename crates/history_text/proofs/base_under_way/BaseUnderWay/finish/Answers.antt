use Rattle.std.proofs.Common.{◌∙◌, sym}
use Rattle.history_text.proofs.BaseLinesRead.{sums_whole, told_whole}
use Rattle.history_text.proofs.base_under_way.BaseUnderWay.finish.Goals as goal

pub returns-clause-base : goal.returns-clause-base
returns-clause-base c =
    let self = c.self.inside in
    rw (← c.self.view_is)
    (told_whole self.so_far self.base self.lines c.self.invariant (rw (← c.self.view_is) at c.requires))

pub returns-clause-place : goal.returns-clause-place
returns-clause-place c =
    let self = c.self.inside in
    let sums =
    sums_whole self.so_far self.base self.lines c.self.invariant (rw (← c.self.view_is) at c.requires) in
    rw (← c.self.view_is) (λ j. record {
      lines = sym c.self.invariant.count j;
      folded = (c.sums-folded.ensures.sums.0 ∙ sums.0) j;
      count = 0;
      calls = (c.sums-folded.ensures.sums.1 ∙ sums.1) j;
    })
