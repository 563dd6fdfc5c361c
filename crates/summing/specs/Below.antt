-- What summing cites of the crates below, passed on from one place: names of audit and history. Declares
-- nothing.
pub use Rattle.audit.specs.Ledger.{LedgerStand, IsNext}
pub use Rattle.history.specs.declared.arrival.Arrival.{Arrival}
pub use Rattle.history.specs.declared.entry.End.{End}
pub use Rattle.history.specs.declared.entry.Entry.{Entry}
pub use Rattle.history.specs.declared.entry.Mode.TheVariants.{X, S}
pub use Rattle.history.specs.declared.entry.Word.{Word}
pub use Rattle.history.specs.declared.fault.Fault.{Fault}
pub use Rattle.history.specs.declared.header.Header.{Header}
pub use Rattle.history.specs.Base.{based}
pub use Rattle.history.specs.Counts.{held}
pub use Rattle.history.specs.Entry.{ends_call}
pub use Rattle.history.specs.Line.{line, place_of}
pub use Rattle.history.specs.Object.{is_lock}
pub use Rattle.history.specs.Start.{Start}
