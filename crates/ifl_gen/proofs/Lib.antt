pub mod Ranges
pub mod States
pub mod Bytes
pub mod Files
pub mod Sizes
pub mod Records
pub mod Limits
