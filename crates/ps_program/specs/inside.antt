pub mod Listed
pub mod PartsView
pub mod Weights
