pub mod OpenGates
pub mod Runners
pub mod Runs
mod Explaining
