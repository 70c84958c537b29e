pub mod Applied
pub mod Lets
pub mod Loops
pub mod Repeats
pub use Rattle.ps_checked.proofs.of_ps_typing as of_ps_typing
pub use Rattle.ps_checked.proofs.of_ps_declared as of_ps_declared
pub use Rattle.ps_checked.proofs as of_ps_checked
