pub mod Spelled
pub mod Calls
pub mod Pin
pub mod Answers
pub mod Ran
