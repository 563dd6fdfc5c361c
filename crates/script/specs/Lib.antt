pub mod Prelude
pub mod Building
pub mod CallText
pub mod Name
pub mod Reading
pub mod Saying
pub mod Script
pub mod inner
