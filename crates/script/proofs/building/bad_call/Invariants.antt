use Rattle.std.specs.Prelude.{All, take}
use Rattle.script.specs.Script.{IsCall}
use Rattle.script.proofs.building.bad_call.Given as goal

abbrev pub invariant-loop-place : goal.invariant-loop-place
invariant-loop-place l = All (IsCall l.objects l.threads) (take l.place l.calls)
