pub mod Below
pub mod State
pub mod Laws
pub mod inner
