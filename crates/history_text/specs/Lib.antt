pub mod Prelude
pub mod Below
-- the text of a history, and which texts are read as which history
pub mod BaseLines
pub mod EntryLines
pub mod HistoryLines
pub mod HistoryText
pub mod Pieces
pub mod TextLines
-- the readers of a text, line by line
pub mod BaseLineLimits
pub mod BaseText
pub mod NextLine
pub mod ToldBases
-- what no public contract cites
pub mod BaseFollowing
pub mod BaseReading
pub mod BaseRules
pub mod BaseTelling
pub mod BaseUnderWay
pub mod CommonEntry
pub mod EntryReading
pub mod SpeltNumber
pub mod inner
