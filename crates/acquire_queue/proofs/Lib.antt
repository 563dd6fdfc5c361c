pub mod Lines
pub mod Nodes
pub mod Tidying
pub mod Walking
