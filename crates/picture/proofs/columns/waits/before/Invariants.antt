use Rattle.std.proofs.Common.{◌-◌, ◌≤◌, length}
use Rattle.picture.proofs.columns.waits.before.Given as goal

abbrev pub invariant-loop-place : goal.invariant-loop-place
invariant-loop-place l = l.place ≤ length l.waits

abbrev pub decreases-loop-place : goal.decreases-loop-place
decreases-loop-place l = length l.waits - l.place
