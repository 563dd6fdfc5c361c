-- What the proofs of driver cite of its own definitions, passed on from one place: what streams leave, and how a
-- reader stands in its text. Declares nothing.
pub use Rattle.driver.specs.declared.form.Form.{Form}
pub use Rattle.driver.specs.declared.form.Form.TheVariants.{Replay, History}
pub use Rattle.driver.specs.declared.telling.Telling.{Telling}
pub use Rattle.driver.specs.Answers.{AllAnswers, form_lines, lines_text, answers_text, Writes}
pub use Rattle.driver.specs.AuditText.{before_wrong}
pub use Rattle.driver.specs.HistoryReader.{EntriesHeld, base_held, AreCounted, EntriesRead, IsEntryNext}
pub use Rattle.driver.specs.LineWriter.{IsGathered, Gathers}
pub use Rattle.driver.specs.ReplayStream.{answer_text, IsLawful, Replayed, AreAnswersBehind, WritesReplay}
pub use Rattle.driver.specs.ReplayText.{answer_line, trim_line, entries_of, behind_acts, Told, told_more}
pub use Rattle.driver.specs.StepReader.{Held, progress, common_act}
pub use Rattle.driver.specs.Telling.{IsVerdict, IsToldOf, Tells}
pub use Rattle.driver.specs.TextReader.{Progress, reader_at, WereRead, IsPartLeft, IsFaultOf, IsOfNoText, IsNext}
