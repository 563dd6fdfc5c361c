pub mod Reading
pub mod Changing
pub mod Going
