pub mod Broken
pub mod Forgetting
pub mod Marking
pub mod OnBases
pub mod OutOfOrder
pub mod Replies
pub mod Woken
pub mod examples
