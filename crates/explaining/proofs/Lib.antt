pub mod Listed
pub mod NamedSeats
pub mod Noted
pub mod Modest
