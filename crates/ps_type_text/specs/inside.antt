pub mod Putting
pub mod Procedures
