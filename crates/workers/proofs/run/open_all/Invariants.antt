use Rattle.std.proofs.Common.{◌≡◌, length, map, take}
use Rattle.workers.specs.Reports.{header_of, headers_of, opening_rows}
use Rattle.workers.proofs.run.open_all.Given as goal

abbrev pub invariant-loop-place : goal.invariant-loop-place
invariant-loop-place l =
    (map header_of l.objects.items ≡ take l.place (headers_of l.script))
    × (l.rows.items ≡ opening_rows l.objects.items 0 (length l.script.workers))
