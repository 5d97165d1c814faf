mod Collapsed
mod Copies
mod Crosses
mod Laid
mod Linked
mod Lists
mod NodeSteps
mod PlaceSteps
mod Rows
mod RunValues
mod Segments
mod Sharing
mod Trims
mod UnboxedSteps
pub mod Ranges
