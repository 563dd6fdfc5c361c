pub mod Tables
pub mod SeatsFollow
pub mod PassingsFollow
pub mod ConditionsFollow
pub mod SummaryIs
