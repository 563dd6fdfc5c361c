pub mod Counting
pub mod Exactly
pub mod OwnEntries
pub mod Rounds
pub mod MakingRoom
pub mod Owning
pub mod Permits
pub mod CountingDown
