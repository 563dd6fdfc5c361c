use Rattle.history_text.proofs.BaseLinesRead.{few}
use Rattle.history_text.proofs.base_under_way.BaseUnderWay.recall_few.Goals as goal

pub returns : goal.returns
returns c = rw (← c.self.view_is) (few _ _ _ c.self.invariant)
