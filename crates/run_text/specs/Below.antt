-- What run_text cites of the crates below, passed on from one place: names of audit, driver, history,
-- history_text, monitor, script, streams, word_lock and workers. Declares nothing.
pub use Rattle.audit.specs.declared.verdict.Judgement.TheVariants.{Legal}
pub use Rattle.audit.specs.Totals.{totals_of}
pub use Rattle.audit.specs.Verdict.{IsJudgement, verdict_of}
pub use Rattle.driver.specs.AuditText.{number_line, audit_text}
pub use Rattle.driver.specs.LineWriter.{IsGathered}
pub use Rattle.history.specs.declared.entry.Entry.{Entry}
pub use Rattle.history.specs.declared.header.Header.{Header}
pub use Rattle.history.specs.declared.limits.TheConstants.{MOST_FOLDED}
pub use Rattle.history.specs.Base.{Base, based}
pub use Rattle.history.specs.Entries.{base_on, start_on, IsBasedWell}
pub use Rattle.history.specs.EntryWords.{IsSpelt, mode_word}
pub use Rattle.history.specs.Fault.{fault_name}
pub use Rattle.history.specs.GoodBase.{IsGood}
pub use Rattle.history.specs.Header.{IsInRange}
pub use Rattle.history.specs.Legal.{calls}
pub use Rattle.history.specs.Text.{ended, line_of}
pub use Rattle.history_text.specs.EntryLines.{entry_line, counts_line}
pub use Rattle.history_text.specs.HistoryLines.{head_line, head_of, lines_told}
pub use Rattle.history_text.specs.Pieces.{lines_text, entry_lines, history_text}
pub use Rattle.monitor.specs.Shown.{Shown}
pub use Rattle.script.specs.declared.action.Action.TheVariants.{Acquire, AwaitOn}
pub use Rattle.script.specs.CallText.{action_words}
pub use Rattle.script.specs.Script.{Named, ScriptView, named}
pub use Rattle.streams.specs.declared.stream_fault.StreamFault.{StreamFault}
pub use Rattle.streams.specs.declared.stream_fault.StreamFault.TheVariants.{Text, ReadFailed, WriteFailed, Memory}
pub use Rattle.streams.specs.Writing.{AppendsFront}
pub use Rattle.word_lock.specs.Ticket.{LockId}
pub use Rattle.workers.specs.declared.report.ObjectReport.{ObjectReport}
pub use Rattle.workers.specs.declared.report.Report.{Report}
pub use Rattle.workers.specs.declared.unrecorded.Unrecorded.{Unrecorded}
pub use Rattle.workers.specs.Reports.{IsPart, is_legal, IsSound, AreParts, header_of, IsReport}
