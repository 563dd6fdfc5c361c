pub mod Below
pub mod Why
pub mod Ways
pub mod Naming
pub mod State
