pub mod Fitting
pub use Rattle.ps_leaf_laws.specs.ps_soundness as ps_soundness
pub use Rattle.ps_leaf_laws.specs as ps_leaf_laws
