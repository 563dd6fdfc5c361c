use Rattle.std.specs.Prelude.{All, take}
use Rattle.script.specs.Script.{IsObject, named}
use Rattle.script.proofs.building.bad_object.Given as goal

abbrev pub invariant-loop-place : goal.invariant-loop-place
invariant-loop-place l = All (IsObject l.threads) (take l.place (named l.objects.entries))
