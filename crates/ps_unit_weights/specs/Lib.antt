pub mod Weights
pub use Rattle.ps_gen.specs as ps_gen
pub use Rattle.proc_values.specs as proc_values
