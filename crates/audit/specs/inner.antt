-- What only contracts of private functions cite: no promise of the crate rests on it.
pub mod Candidates
pub mod Holds
pub mod Ledger
pub mod Waiting
