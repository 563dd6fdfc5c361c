pub mod Deed
pub mod Script
pub mod inner
