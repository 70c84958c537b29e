pub mod Renames
pub mod Numbered
pub use Rattle.heap_meaning.specs as heap_meaning
