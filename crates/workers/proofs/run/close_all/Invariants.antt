use Rattle.std.proofs.Common.{List, ◌++◌}
use Rattle.workers.specs.Prelude.{ObjectReport, AreParts}
use Rattle.workers.specs.inner.Homes.{HaveColumns}
use Rattle.workers.proofs.run.close_all.Given as goal

abbrev pub invariant-loop-object : goal.invariant-loop-object
invariant-loop-object g l =
    let rest = l.object-iterator.rest.items in
    HaveColumns rest l.columns.rest.items
    × ((more : List ObjectReport) → AreParts rest l.columns.rest.items more →
    AreParts l.fn.objects.items l.fn.columns.items (l.parts.items ++ more))
