pub mod Below
pub mod Seated
pub mod Standing
pub mod inner
pub mod Owned
pub mod Codes
pub mod Calls
pub mod Opening
