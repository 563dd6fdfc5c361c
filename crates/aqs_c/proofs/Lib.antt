pub mod Walking
pub mod Values
pub mod HeldValues
pub mod SeatTurns
pub mod Placing
