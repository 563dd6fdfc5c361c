use Rattle.std.proofs.Common.{◌≡◌, drop}
use Rattle.fault_places.specs.Reports.{begins_script}
use Rattle.fault_places.proofs.report.begins_script.Given as goal

-- all bytes so far are blanks
abbrev pub invariant-loop-byte : goal.invariant-loop-byte
invariant-loop-byte l = begins_script l.text ≡ begins_script (drop l.byte-index l.text)
