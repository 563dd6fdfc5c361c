pub mod Stowing
pub mod Waits
pub mod Calling
pub mod Failing
pub mod Readers
pub mod Shelving
pub mod Fetching
pub mod Closing
