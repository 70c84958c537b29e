mod Rows
pub mod Widths
pub mod Laws
pub mod Linking
pub mod Making
pub mod Bodies
pub use Rattle.ps_base.proofs as of_ps_base
pub use Rattle.ps_program.proofs as of_ps_program
pub use Rattle.ps_emitter.proofs as of_ps_emitter
