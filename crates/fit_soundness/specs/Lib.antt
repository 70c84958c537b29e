pub mod Levels
pub mod Cleaned
pub mod Laws
pub use Rattle.heap_fit.specs as heap_fit
pub use Rattle.ps_heap.specs as ps_heap
pub use Rattle.ps_soundness.specs as ps_soundness
