pub mod Words
pub mod Area
pub mod Lending
pub mod inside
