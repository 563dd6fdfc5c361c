use Rattle.std.proofs.Common.{◌≡◌, List, take}
use Rattle.std.specs.List.{flat_map}
use Rattle.explaining.specs.Below.{Start, Entry}
use Rattle.explaining.specs.Ways.{way_of}
use Rattle.explaining.proofs.way.ways_of.Given as goal

abbrev pub invariant-loop-step : goal.invariant-loop-step
invariant-loop-step g l =
    (s : Start) (h : List Entry) → g.T.ObjectState.stands s h l.state →
    l.ways.items ≡ flat_map (way_of s h l.entry) (take l.step-index l.step-items)
