pub mod Gate
pub mod Numbers
pub mod Looking
pub mod Shutting
