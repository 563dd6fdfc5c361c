use Rattle.std.proofs.Common.{◌≡◌, ◌+◌, ◌≤◌, ◌++◌, length, take, drop}
use Rattle.workers.specs.Rows.{dealt}
use Rattle.workers.proofs.passes.deal.Given as goal

abbrev pub invariant-loop-pass : goal.invariant-loop-pass
invariant-loop-pass l =
    (l.place + length l.pass-iterator.rest.items ≤ length l.rows.items)
    × (take l.place l.rows.items ++ dealt l.pass-iterator.rest.items (drop l.place l.rows.items) ≡
    dealt l.fn.passes l.fn.rows.items)
