use Rattle.history_text.proofs.BaseOpening.{is_unused, unused_opening}
use Rattle.history_text.proofs.base_fitting.is_opening.Goals as goal

pub returns : goal.returns
returns c = (
  λ t. unused_opening c.args.base.now (c.is_unused.ensures.0 t),
  λ e. c.is_unused.ensures.1 (is_unused c.args.base.now e),
)
