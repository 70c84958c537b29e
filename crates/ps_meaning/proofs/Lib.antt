pub mod Rows
pub mod ObjectRows
mod ProcedureRows
pub mod StoringRows
mod TouchRows
mod ProgramRows
mod ScanRows
pub use Rattle.text_forms.proofs as of_text_forms
