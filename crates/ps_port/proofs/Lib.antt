pub mod Torn
pub mod Telling
pub use Rattle.ps_outside.proofs as of_ps_outside
