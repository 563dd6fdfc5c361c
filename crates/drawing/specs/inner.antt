-- What only contracts of private functions cite: no promise of the crate rests on it.
pub mod Stretches
pub mod Barging
