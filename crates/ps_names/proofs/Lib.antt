pub mod Doing
pub mod Rising
pub mod Forming
pub mod Scoping
