pub mod After
pub mod Applying
pub mod Blocks
pub mod Meeting
pub mod Places
pub mod Views
pub use Rattle.ps_steps.proofs.of_ps_declared as of_ps_declared
