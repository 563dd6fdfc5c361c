-- What read_write cites of the crates below, passed on from one place: names of frame and history. Declares
-- nothing.
pub use Rattle.frame.specs.Hooks.{AreAlike, opening_counts, take_answer_of, take_answer, open_where, give_answer, let_go_answer, IsRestorable}
pub use Rattle.frame.specs.Owners.{holds_of, is_owner_in, is_owned, Owns}
pub use Rattle.history.specs.declared.entry.Mode.{Mode}
pub use Rattle.history.specs.declared.entry.Mode.TheVariants.{X, S}
pub use Rattle.history.specs.declared.header.Object.{Object}
pub use Rattle.history.specs.declared.header.Object.TheVariants.{ReadWrite}
pub use Rattle.history.specs.declared.header.Policy.{Policy}
pub use Rattle.history.specs.declared.limits.TheConstants.{MOST_READ_WRITE_HOLDS}
pub use Rattle.history.specs.Changes.{holds_with, took, gave_back, given, restored}
pub use Rattle.history.specs.Could.{is_seat, is_none_or, could}
pub use Rattle.history.specs.Counts.{Counts, total, owner, readers}
pub use Rattle.history.specs.Object.{in_holds}
