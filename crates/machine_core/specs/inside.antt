pub mod Taking
pub mod Handing
