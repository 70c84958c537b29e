pub mod Determined
pub mod Following
pub mod Paths
mod Popping
mod Effects
mod Rows
mod ObjectEffects
mod LibraryEffects
mod ScanEffects
mod ProcedureEffects
mod ObjectRows
mod ProcedureRows
mod LibraryRows
pub use Rattle.ps_heap.proofs.of_text_forms as of_text_forms
pub use Rattle.ps_code.proofs as of_ps_code
