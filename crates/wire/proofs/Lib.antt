pub mod Pad
pub mod Names
pub mod Reading
