pub mod Elements
pub mod Taking
pub mod Making
