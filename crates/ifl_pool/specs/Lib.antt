pub mod History
pub mod Passes
pub mod Pools
pub mod Ledger
pub mod Word
pub mod Queue
