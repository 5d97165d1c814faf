pub mod Laps
pub mod Entries
pub mod Ties
pub mod WordSteps
pub mod Counting
