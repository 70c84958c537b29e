pub mod Fields
pub mod Making
