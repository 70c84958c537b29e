pub mod ClassMeant
pub mod Declaring
pub mod FieldNames
pub mod Steps
pub use Rattle.ps_scope.proofs.of_ps_typing as of_ps_typing
