pub mod Files
pub mod Told
pub mod Causes
pub mod Fetched
pub mod Entries
pub mod Memory
