pub mod Parsing
pub mod Stopping
