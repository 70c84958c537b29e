pub mod Weighing
pub mod UnitWords
pub mod Constants
