pub mod Pages
pub mod Progress
pub mod Work
