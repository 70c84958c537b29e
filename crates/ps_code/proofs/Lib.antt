pub mod Words
pub mod Makers
pub mod Fronts
