use Rattle.history.specs.Base.{based}
use Rattle.history.proofs.GoodBases.{good_waits}
use Rattle.history.proofs.Passing.{fair_order, in_order_from}
use Rattle.laws.proofs.bases.nobody_is_passed_on_a_base.Goals as goal

pub returns : goal.returns
returns c =
    record {
      line = λ b h good legal. in_order_from (based b) h (good_waits b good) legal;
      fair = λ b h legal. fair_order (based b) h legal;
    }
