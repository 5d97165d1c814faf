pub mod Counting
pub mod Sums
pub mod Numbers
pub mod Ledgers
pub mod Knowing
pub mod WordSteps
pub mod QueueSteps
