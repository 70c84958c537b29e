mod Parts
mod Choices
mod Spelling
pub mod Units
pub use Rattle.ps_typing_laws.proofs as of_ps_typing_laws
