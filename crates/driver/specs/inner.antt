-- What only contracts of private functions cite: no promise of the crate rests on it.
pub mod Answering
pub mod BaseReader
pub mod Choice
pub mod Codes
pub mod HistoryReader
pub mod Judged
pub mod Logged
pub mod ReplayStream
pub mod StepReader
pub mod Telling
pub mod TextReader
