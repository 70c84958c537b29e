pub mod Space
pub mod Stands
pub use Rattle.space_meaning.specs as space_meaning
pub use Rattle.heap_fit.specs as heap_fit
