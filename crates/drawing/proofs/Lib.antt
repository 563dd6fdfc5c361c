mod Asking
mod LevelsKept
mod StretchesFollow
mod Walks
mod MarksFollow
mod BarsExact
mod Examples
