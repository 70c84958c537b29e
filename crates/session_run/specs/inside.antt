pub mod Calls
pub mod Advancing
