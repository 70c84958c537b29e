pub mod Cases
pub mod Forms
pub mod Links
pub mod Lists
pub mod Parts
pub mod Tests
pub mod Weights
