use Rattle.guarded.proofs.Fetching.{never_none}
use Rattle.guarded.proofs.pool.Pool.fetch.Goals as goal

pub unreachable-requires : goal.unreachable-requires
unreachable-requires g c =
    never_none c.args.n c.args.how c.in-Ok-None.field-0 c.requires.untimed c.in-Ok-None.field-0-is
    c.in-Ok-None.ensures.answers
