use Rattle.std.proofs.Common.{refl}
use Rattle.history_text.proofs.BaseTheory.{follows_good, good_follows}
use Rattle.history_text.proofs.base_fitting.is_good.Goals as goal

pub returns-then-has_shape : goal.returns-then-has_shape
returns-then-has_shape c = (
  λ t. follows_good c.args.base.now c.requires (c.if-has_shape.ensures.0 refl) (c.follows.ensures.0 t),
  λ g. c.follows.ensures.1
      (good_follows c.args.base.now (record { range = c.requires; some = g.0; good = g.1 })),
)
