pub mod Bodies
pub mod ByCheck
pub mod OfProgram
mod PlacedFits
pub use Rattle.ps_leaf_laws.proofs as of_ps_leaf_laws
