use Rattle.std.proofs.Common.{◌≤◌, vec_len}
use Rattle.permit.proofs.scripted.ScriptedParking.calls.Given as goal

-- each call comes from a record of its own
abbrev pub invariant-loop-record : goal.invariant-loop-record
invariant-loop-record l = vec_len l.calls ≤ l.record-index
