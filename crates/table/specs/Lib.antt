pub mod Written
pub mod Stored
pub mod Sweep
pub mod Fresh
