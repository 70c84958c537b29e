pub mod Databases
pub mod Quiet
pub use Rattle.reaching.specs as reaching
pub use Rattle.ps_heap.specs as ps_heap
pub use Rattle.ps_meaning.specs as ps_meaning
pub use Rattle.ps_code.specs as ps_code
pub use Rattle.ps_stepping.specs as ps_stepping
