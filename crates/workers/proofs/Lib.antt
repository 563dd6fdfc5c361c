mod Closed
pub mod Columns
mod Dealing
mod Keeping
mod Objects
mod Passing
mod Settling
mod Starting
mod AllWorkers
mod Working
