use Rattle.history.proofs.Points.{agrees_opened, follows_before, follows_other, follows_own}
use Rattle.laws.proofs.bases.what_follows_comes_after.Goals as goal

pub returns : goal.returns
returns c =
    record { before = follows_before; own = follows_own; other = follows_other; opening = agrees_opened }
