pub mod Printing
pub mod Views
