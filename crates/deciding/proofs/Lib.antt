pub mod AmountsFollow
pub mod Bounds
pub mod HoldsFollow
pub mod InPhase
pub mod HeldTables
pub mod NewTables
