pub mod Numbers
pub mod File
pub mod Faults
pub mod Names
pub mod Reading
pub mod Seen
pub mod Table
