pub mod Ends
pub mod LinkSteps
pub mod Together
pub mod Voids
pub use Rattle.ps_declared.proofs.of_ps_typing as of_ps_typing
pub use Rattle.ps_declared.proofs as of_ps_declared
