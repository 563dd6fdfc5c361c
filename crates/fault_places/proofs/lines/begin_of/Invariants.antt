use Rattle.std.proofs.Common.{◌≤◌, length}
use Rattle.fault_places.proofs.lines.begin_of.Given as goal

-- what is left is a part of the text
abbrev pub invariant-loop : goal.invariant-loop
invariant-loop l = length l.rest ≤ length l.text
