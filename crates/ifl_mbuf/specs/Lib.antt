pub mod Collapse
pub mod Defrag
pub mod Layout
pub mod Links
pub mod Nodes
pub mod Segment
pub mod Trim
