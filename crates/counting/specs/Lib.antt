pub mod Semaphore
pub mod Latch
