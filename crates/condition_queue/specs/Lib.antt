pub mod Below
pub mod Sleepers
pub mod Moves
pub mod Following
