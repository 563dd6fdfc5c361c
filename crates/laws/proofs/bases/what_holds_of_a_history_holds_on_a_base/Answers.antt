use Rattle.history.specs.Base.{based}
use Rattle.history.proofs.Folding.{based_conserved}
use Rattle.history.proofs.GoodBases.{good_waits}
use Rattle.history.proofs.GoodFolds.{owned_behind}
use Rattle.history.proofs.OneOwner.{saved_from}
use Rattle.history.proofs.OneWait.{waits_from}
use Rattle.history.proofs.Permits.{conserved_from}
use Rattle.laws.proofs.bases.what_holds_of_a_history_holds_on_a_base.Goals as goal

pub returns : goal.returns
returns c =
    record {
      permits = λ b h t can.
          conserved_from (based b) h t (good_waits b can.good) (based_conserved b) can.legal can.seated;
      owner = λ b h lock can. owned_behind b can.good h lock can.legal can.seated;
      saved = λ b h i good legal. saved_from (based b) h (waits_from (based b) h (good_waits b good) legal) i;
      once = λ b h good legal. (waits_from (based b) h (good_waits b good) legal).once;
    }
