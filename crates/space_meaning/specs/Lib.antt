pub mod Space
pub mod Stands
pub mod Keeping
pub use Rattle.heap_meaning.specs as heap_meaning
pub use Rattle.heap_fit.specs as heap_fit
pub use Rattle.ps_code_laws.specs as ps_code_laws
