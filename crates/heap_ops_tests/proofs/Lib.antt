pub mod Staying
pub mod NearLaws
