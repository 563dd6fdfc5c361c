pub mod Client
pub mod Opened
pub mod Parts
pub mod Places
pub mod Worker
