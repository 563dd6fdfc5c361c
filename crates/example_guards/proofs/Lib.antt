pub mod Places
pub mod Printing
