use Rattle.std.proofs.Common.{refl}
use Rattle.frame.proofs.snapshot.in_base.Goals as goal

pub returns : goal.returns
returns c = refl
