-- What driver cites of the crates below, passed on from one place: names of audit, frame, history, history_text,
-- steps and streams. Declares nothing.
pub use Rattle.audit.specs.declared.sums.Totals.{Totals}
pub use Rattle.audit.specs.declared.verdict.Judgement.{Judgement}
pub use Rattle.audit.specs.declared.verdict.Verdict.{Verdict}
pub use Rattle.audit.specs.declared.verdict.Verdict.TheVariants.{Legal, NotLegal}
pub use Rattle.audit.specs.Auditor.{HasJudged}
pub use Rattle.audit.specs.Totals.{totals_of}
pub use Rattle.audit.specs.Verdict.{front, IsFirstWrong, IsJudgement, verdict_of}
pub use Rattle.frame.specs.declared.acts.Act.{Act}
pub use Rattle.frame.specs.declared.acts.Act.TheVariants.{Do, Trim}
pub use Rattle.frame.specs.declared.acts.Done.{Done}
pub use Rattle.frame.specs.declared.acts.Done.TheVariants.{Answered, Trimmed}
pub use Rattle.frame.specs.Acts.{IsOfSeats, as_answered, Outcome, outcome}
pub use Rattle.frame.specs.Core.{CoreView, start_of, IsAnswered, IsStepped, IsTrimmed}
pub use Rattle.history.specs.declared.entry.Entry.{Entry}
pub use Rattle.history.specs.declared.fault.Fault.{Fault}
pub use Rattle.history.specs.declared.fault.Fault.TheVariants.{OutOfMemory}
pub use Rattle.history.specs.declared.header.Header.{Header}
pub use Rattle.history.specs.declared.header.Object.{Object}
pub use Rattle.history.specs.declared.header.Object.TheVariants.{Lock, ReadWrite, Semaphore, Latch}
pub use Rattle.history.specs.declared.limits.TheConstants.{MOST_FOLDED}
pub use Rattle.history.specs.declared.step.Answer.{Answer}
pub use Rattle.history.specs.declared.step.Answer.TheVariants.{Recorded, Sleep}
pub use Rattle.history.specs.declared.step.Step.{Step}
pub use Rattle.history.specs.Answers.{recorded, answer}
pub use Rattle.history.specs.Base.{Base, opening_base, based, folded}
pub use Rattle.history.specs.Entries.{or_opening, IsBasedWell}
pub use Rattle.history.specs.Entry.{ends_call}
pub use Rattle.history.specs.EntryWords.{IsSpelt, entry_words}
pub use Rattle.history.specs.Fault.{fault_name}
pub use Rattle.history.specs.GoodBase.{IsGood, IsBaseOf}
pub use Rattle.history.specs.Header.{IsInRange}
pub use Rattle.history.specs.Legal.{IsLegal, AreSeated, calls}
pub use Rattle.history.specs.Naming.{named}
pub use Rattle.history.specs.Order.{IsInOrder, IsFairOrder}
pub use Rattle.history.specs.Point.{CanFold}
pub use Rattle.history.specs.Spelling.{part_of}
pub use Rattle.history.specs.Start.{Start}
pub use Rattle.history.specs.Text.{ended, line_of, HasNoBreak}
pub use Rattle.history_text.specs.declared.base_line.BaseLine.{BaseLine}
pub use Rattle.history_text.specs.declared.base_under_way.TheConstants.{MOST_LINES}
pub use Rattle.history_text.specs.declared.place.Head.{Head}
pub use Rattle.history_text.specs.declared.place.Place.{Place}
pub use Rattle.history_text.specs.BaseLines.{base_line, base_lines}
pub use Rattle.history_text.specs.EntryLines.{entry_line, counts_line}
pub use Rattle.history_text.specs.HistoryLines.{head_of}
pub use Rattle.history_text.specs.HistoryText.{history_form, IsHistoryText}
pub use Rattle.history_text.specs.NextLine.{HasShortLine, LacksBaseLine, LinesRead, IsBaseLineNext, IsBaseLineTaken, behind, AreEntriesRead, IsEntryBehind}
pub use Rattle.history_text.specs.Pieces.{entry_lines, history_text}
pub use Rattle.history_text.specs.TextLines.{Line, Based, lines_on}
pub use Rattle.history_text.specs.ToldBases.{IsToldBase, GoodBeginsSo, GoodHas}
pub use Rattle.steps.specs.declared.common_step.Common.{Common}
pub use Rattle.steps.specs.declared.end_line.TheConstants.{MOST_ACTS}
pub use Rattle.steps.specs.declared.header.StepsHeader.{StepsHeader}
pub use Rattle.steps.specs.CommonSteps.{step_of, stepped}
pub use Rattle.steps.specs.StepLines.{IsStep, step_line, IsAct, act_line, end_line}
pub use Rattle.steps.specs.StepsText.{steps_form, steps_so_far}
pub use Rattle.streams.specs.declared.fault.TextFault.{TextFault}
pub use Rattle.streams.specs.declared.fault.TextFault.TheVariants.{BadHeader, BadLine, CutShort}
pub use Rattle.streams.specs.declared.limits.TheConstants.{LINE_BYTES, PIECE}
pub use Rattle.streams.specs.declared.source.DeviceFailed.{DeviceFailed}
pub use Rattle.streams.specs.declared.stream_fault.StreamFault.{StreamFault}
pub use Rattle.streams.specs.declared.stream_fault.StreamFault.TheVariants.{Text, ReadFailed, WriteFailed, Memory}
pub use Rattle.streams.specs.Form.{Form, lines_of}
pub use Rattle.streams.specs.Reading.{Begins, IsText, IsReading}
pub use Rattle.streams.specs.ReadingOn.{IsOfReading, IsToldFor, IsTooLong}
pub use Rattle.streams.specs.Short.{HasShortLines}
pub use Rattle.streams.specs.Streams.{Streams, IsReadTo, IsReadNoFurther, IsReadOut}
pub use Rattle.streams.specs.UnderWay.{SoFar, AreRead, IsAhead, IsLineBehind}
pub use Rattle.streams.specs.Window.{Seen, room, Grows, StaysAhead}
pub use Rattle.streams.specs.Writing.{AppendsFront}
pub use Rattle.summing.specs.Summing.{HasSummed}
