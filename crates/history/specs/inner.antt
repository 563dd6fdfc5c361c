-- What only contracts of private functions cite: no promise of the crate rests on it.
pub mod BasePlaces
pub mod EntryWords
pub mod BaseSleepers
pub mod HeaderReading
pub mod Paged
pub mod Packed
