pub mod Sparing
pub mod Entering
pub mod Following
pub mod Making
pub mod Nodes
pub mod Removing
pub mod Searching
pub mod Sought
pub mod Spans
pub mod Steps
pub mod Turning
pub mod Wings
pub mod Bringing
pub mod Faults
pub mod Fetching
pub mod Hanging
pub use Rattle.heap_places.specs as heap_places
pub use Rattle.avl_trees.specs as avl_trees
pub use Rattle.node_rows.specs as node_rows
