pub mod Making
pub mod Bodies
pub mod Names
