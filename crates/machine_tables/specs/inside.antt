pub mod Operands
pub mod Ends
pub mod Scanning
