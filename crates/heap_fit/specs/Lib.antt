pub mod Slots
pub mod Bodies
pub mod Heaps
pub mod Typed
pub mod Going
pub mod Kept
pub mod Laws
pub use Rattle.ps_soundness.specs as ps_soundness
pub use Rattle.ps_heap.specs as ps_heap
pub use Rattle.database_meaning.specs as database_meaning
pub use Rattle.ps_typing_laws.specs as ps_typing_laws
pub use Rattle.ps_fit_laws.specs as ps_fit_laws
