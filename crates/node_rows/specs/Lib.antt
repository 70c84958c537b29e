pub mod Keys
pub mod Nodes
pub use Rattle.heap_places.specs as heap_places
pub use Rattle.avl_trees.specs as avl_trees
