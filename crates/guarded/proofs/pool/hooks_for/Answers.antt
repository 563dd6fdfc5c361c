use Rattle.std.proofs.Common.{length, arith}
use Rattle.std.proofs.lemmas.Int.{ints}
use Rattle.guarded.proofs.Shelving.{permits_as}
use Rattle.guarded.proofs.pool.hooks_for.Goals as goal

pub returns-clause-object : goal.returns-clause-object
returns-clause-object g c =
    permits_as _ c.args.policy _ (length c.args.items.now) c.open.ensures.object (omega (arith, ints))
