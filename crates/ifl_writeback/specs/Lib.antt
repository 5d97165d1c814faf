pub mod Writeback
