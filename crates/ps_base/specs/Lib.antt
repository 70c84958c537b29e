pub mod Limits
pub mod List
pub mod Instr
pub mod CodeUnit
pub mod TyView
