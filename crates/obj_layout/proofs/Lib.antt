pub mod ReferenceLaws
pub mod HeaderLaws
pub mod ObjectLaws
pub mod ContentLaws
pub mod StoredLaws
mod Worked
pub use Rattle.ps_outside.proofs as of_ps_outside
