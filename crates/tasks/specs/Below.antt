-- What tasks cites of the crates below, passed on from one place: names of audit, driver, naming, run_text,
-- script, streams and workers. Declares nothing.
pub use Rattle.audit.specs.declared.verdict.Verdict.{Verdict}
pub use Rattle.audit.specs.declared.verdict.Verdict.TheVariants.{Legal, NotLegal}
pub use Rattle.driver.specs.ReplayStream.{StepsReadOut, WritesReplay}
pub use Rattle.driver.specs.Telling.{HistoryReadOut, WritesTold}
pub use Rattle.picture.specs.Names.{Given}
pub use Rattle.run_text.specs.RunText.{parts_text, run_text, last_lines, report_text}
pub use Rattle.script.specs.declared.fault.ScriptFault.{ScriptFault}
pub use Rattle.script.specs.declared.fault.ScriptFault.TheVariants.{NotJson, BadTop, BadObject, BadThread, BadCall, OutOfMemory}
pub use Rattle.script.specs.Reading.{IsFault, Reads}
pub use Rattle.script.specs.Script.{WorkerView, ScriptView}
pub use Rattle.streams.specs.declared.stream_fault.StreamFault.{StreamFault}
pub use Rattle.streams.specs.declared.stream_fault.StreamFault.TheVariants.{Text, ReadFailed, WriteFailed, Memory}
pub use Rattle.streams.specs.Writing.{AppendsFront}
pub use Rattle.workers.specs.declared.fault.RunFault.{RunFault}
pub use Rattle.workers.specs.declared.fault.RunFault.TheVariants.{GateShut, NotStarted}
pub use Rattle.workers.specs.declared.report.Report.{Report}
pub use Rattle.workers.specs.Gates.{StopsFirst, IsFaultOfRun}
pub use Rattle.workers.specs.Refused.{WasRefused}
pub use Rattle.workers.specs.Reports.{IsListed}
