-- What only contracts of private functions cite: no promise of the crate rests on it.
pub mod Waits
pub mod Load
pub mod Machine
pub mod Stepping
pub mod AtOnce
pub mod Sections
