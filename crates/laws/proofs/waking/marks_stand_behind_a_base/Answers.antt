use Rattle.std.proofs.Common.{[]}
use Rattle.history.specs.Base.{based, folded}
use Rattle.history.proofs.Folding.{fold_alike}
use Rattle.history.proofs.Marking.{right_alike}
use Rattle.laws.proofs.waking.marks_stand_behind_a_base.Goals as goal

pub returns : goal.returns
returns c = λ b h m can right.
    right_alike b.header (based b) (based (folded b h)) h [] (fold_alike b h can.good can.legal can.seated)
    m right
