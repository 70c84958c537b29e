pub mod Outside
pub mod Past
