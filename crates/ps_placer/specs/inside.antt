pub mod Tables
pub mod Marks
pub mod Params
pub mod Standing
