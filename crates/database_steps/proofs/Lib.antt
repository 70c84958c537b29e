pub mod Going
pub mod ObjectSteps
pub mod LibrarySteps
pub mod ProcedureSteps
pub mod Instructions
pub mod Openings
pub mod Alone
pub mod Steps
pub mod Runs
mod Rows
pub use Rattle.reaching.proofs as of_reaching
pub use Rattle.ps_stepping.proofs as of_ps_stepping
