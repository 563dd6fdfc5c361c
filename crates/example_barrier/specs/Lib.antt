-- What contracts see of a gathering.
pub mod Gathered
