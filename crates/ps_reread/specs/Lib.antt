pub mod Bare
pub mod Lines
pub mod Printable
pub mod Reprint
pub mod Spelled
