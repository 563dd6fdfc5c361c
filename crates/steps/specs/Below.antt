-- What steps cites of the crates below, passed on from one place: names of frame, history and streams.
-- Declares nothing.
pub use Rattle.frame.specs.declared.acts.Act.{Act}
pub use Rattle.frame.specs.declared.acts.Act.TheVariants.{Do, Trim}
pub use Rattle.history.specs.declared.entry.Mode.{Mode}
pub use Rattle.history.specs.declared.entry.Mode.TheVariants.{X, S}
pub use Rattle.history.specs.declared.header.Header.{Header}
pub use Rattle.history.specs.declared.step.Step.{Step}
pub use Rattle.history.specs.declared.step.Step.TheVariants.{Acquire, Try, TryFair, EntryInterrupt, Give, Look, Expire, Interrupt, Await, Signal, SignalAll, Drain}
pub use Rattle.history.specs.EntryWords.{mode_word}
pub use Rattle.history.specs.Header.{IsInRange}
pub use Rattle.history.specs.Reading.{Words, number_at, mode_at}
pub use Rattle.history.specs.Spelling.{part_of}
pub use Rattle.history.specs.Text.{ended, line_of, words_of}
pub use Rattle.streams.specs.declared.fault.ReadFault.{ReadFault}
pub use Rattle.streams.specs.Form.{Form}
pub use Rattle.streams.specs.Reading.{IsReading}
pub use Rattle.streams.specs.Short.{HasShortLines}
pub use Rattle.streams.specs.UnderWay.{SoFar}
