pub mod Holders
pub mod Entries
