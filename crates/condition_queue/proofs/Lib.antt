pub mod Lists
pub mod Kept
pub mod Moving
pub mod Movable
pub mod Behind
