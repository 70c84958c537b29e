pub mod Taking
pub mod Verdicts
