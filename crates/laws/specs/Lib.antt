pub mod Below
pub mod Breaks
pub mod Forgetful
pub mod OutOfTurn
pub mod Woken
