pub mod Making
pub mod Way
pub mod Names
pub mod inside
pub use Rattle.closures.specs.swizzle as swizzle
pub use Rattle.closures.specs.heap_texts as heap_texts
pub use Rattle.closures.specs.heap_places as heap_places
pub use Rattle.heap_ops.specs as heap_ops
pub use Rattle.closures.specs as closures
