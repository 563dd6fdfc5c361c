pub mod Lock
pub mod Laws
