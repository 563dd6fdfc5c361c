-- What only contracts of private functions cite: no promise of the crate rests on it.
pub mod Asking
pub mod Lending
pub mod Pooling
pub mod Stowed
