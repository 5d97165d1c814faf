pub mod Statuses
pub mod Ties
pub mod WordSteps
pub mod Counting
