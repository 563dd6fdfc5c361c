pub mod Names
pub mod Lines
pub mod Reading
pub mod Escaping
pub mod inner
