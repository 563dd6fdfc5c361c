-- What the proofs of history_text cite of its own definitions, passed on from one place: the lines of a
-- history text and of its base, what they tell, and how far such a text was read. Declares nothing.
pub use Rattle.history_text.specs.declared.base_line.BaseLine.{BaseLine}
pub use Rattle.history_text.specs.declared.base_line.BaseLine.TheVariants.{Folded, Released, CountedDown, Seat, Stands, Sleeps}
pub use Rattle.history_text.specs.declared.base_under_way.TheConstants.{MOST_LINES}
pub use Rattle.history_text.specs.declared.place.Head.{Head}
pub use Rattle.history_text.specs.declared.place.Place.{Place}
pub use Rattle.history_text.specs.BaseFollowing.{AllRead, after_told, with_lines}
pub use Rattle.history_text.specs.BaseLineLimits.{stood_by, IsBaseLine}
pub use Rattle.history_text.specs.BaseLines.{waiting_by, base_words, base_line, first_line, seat_lines, sleeper_lines, base_lines}
unfoldable pub use Rattle.history_text.specs.BaseReading.{beside_at, folded_at, has_at, stands_at, sleeps_at, base_line_at}
pub use Rattle.history_text.specs.BaseRules.{BaseSums, no_sums, with_sums, MayHold, IsFirst, IsSeated, AllSeated, IsFree, MayFollow, with_line}
pub use Rattle.history_text.specs.BaseTelling.{sums_of, base_by, Follow}
pub use Rattle.history_text.specs.BaseText.{calls_sum, IsHeadPut}
pub use Rattle.history_text.specs.BaseUnderWay.{lines_so_far, lines_by, lines_read, IsUnderWay}
pub use Rattle.history_text.specs.EntryLines.{entry_line, counts_line, HasLine}
unfoldable pub use Rattle.history_text.specs.EntryReading.{counts_at, line_at}
pub use Rattle.history_text.specs.HistoryLines.{name_of, head_line, head_of, lines_told}
pub use Rattle.history_text.specs.HistoryText.{history_form, IsHistoryText, IsHistoryReading, HasBaseText, Fits, IsRead, Reads}
pub use Rattle.history_text.specs.NextLine.{LacksBaseLine, LinesRead, IsBaseLineNext, behind, AreEntriesRead, IsEntryBehind, IsBaseAhead}
pub use Rattle.history_text.specs.Pieces.{lines_text, entry_lines, history_text}
pub use Rattle.history_text.specs.TextLines.{Line, Based, Entered, line_text, entries_told, calls_told, sum_of, end_of, numbered, lines_on, IsHistoryOf, SomeBeginsSo, SomeHas}
pub use Rattle.history_text.specs.ToldBases.{IsToldBase, GoodBeginsSo, GoodHas}
