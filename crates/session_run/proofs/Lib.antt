pub mod Others
pub mod Moments
pub mod Stepping
pub mod Calling
pub mod Between
