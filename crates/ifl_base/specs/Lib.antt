pub mod FlagAfter
pub mod Space
pub mod Verdict
pub mod Word
