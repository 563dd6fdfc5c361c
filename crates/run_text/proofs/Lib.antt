mod Appending
mod AnswerLines
pub mod Judged
pub mod Texts
pub mod Written
