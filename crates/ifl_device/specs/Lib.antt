pub mod Adapter
pub mod Outcomes
pub mod Wire
pub mod Engine
pub mod Turns
pub mod Origin
pub mod Receive
