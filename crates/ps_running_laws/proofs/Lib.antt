mod InScopes
pub mod OfProgram
mod Rows
mod RulesRun
mod ScopePlaces
pub use Rattle.ps_fit_laws.proofs.of_ps_leaf_laws as of_ps_leaf_laws
pub use Rattle.ps_fit_laws.proofs as of_ps_fit_laws
