pub mod Appending
mod LinesFollow
