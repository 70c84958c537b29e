pub mod Tables
pub mod Faults
pub mod Nexts
pub mod Operations
pub mod Entries
pub use Rattle.table_nodes.specs.heap_places as heap_places
pub use Rattle.table_nodes.specs.avl_trees as avl_trees
pub use Rattle.table_nodes.specs as table_nodes
