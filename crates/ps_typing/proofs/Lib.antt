mod Rows
mod PlacedRows
pub mod SameTypes
pub mod Keeps
mod LocalRows
pub use Rattle.ps_program.proofs as of_ps_program
