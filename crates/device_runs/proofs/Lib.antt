pub mod Since
pub mod OnDevice
pub mod Concluding
