pub mod Address
pub mod Asked
pub mod State
