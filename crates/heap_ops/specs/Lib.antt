pub mod Outcomes
pub mod Structures
pub mod Vectors
pub mod Layouts
pub mod inside
pub use Rattle.heap_places.specs.swizzle as swizzle
pub use Rattle.heap_places.specs.heap_texts as heap_texts
pub use Rattle.heap_places.specs as heap_places
