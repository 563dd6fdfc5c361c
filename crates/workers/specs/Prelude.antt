-- What the proofs of workers cite of its own definitions, passed on from one place: reports, standings and
-- faults of a run, and the calls that its workers made. Declares nothing.
pub use Rattle.workers.specs.declared.fault.RunFault.{RunFault}
pub use Rattle.workers.specs.declared.fault.RunFault.TheVariants.{Memory, GateShut, NotStarted}
pub use Rattle.workers.specs.declared.report.ObjectReport.{ObjectReport}
pub use Rattle.workers.specs.declared.unrecorded.Unrecorded.{Unrecorded}
pub use Rattle.workers.specs.Calls.{IsActed, fault_of, unrecorded_by, IsCalled, Made, rounds}
pub use Rattle.workers.specs.Gates.{calls_of, LetsBelow, StopsBelow, LetsAll, StopsFirst, IsFaultOfRun}
pub use Rattle.workers.specs.Refused.{WasRefused}
pub use Rattle.workers.specs.Reports.{IsPart, IsSound, AreParts, opening_row, opening_rows, AllMade, dealt_all, header_of, headers_of}
pub use Rattle.workers.specs.Rows.{dealt}
