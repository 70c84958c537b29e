pub use Rattle.heap_places.proofs as of_heap_places
pub use Rattle.avl_trees.proofs as of_avl_trees
