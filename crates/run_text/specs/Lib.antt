pub mod Below
pub mod Circle
pub mod Lines
pub mod RunText
pub mod StandingText
pub mod Unrecorded
pub mod Waiting
pub mod inner
