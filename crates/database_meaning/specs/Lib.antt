pub mod Same
pub mod Sound
pub mod SameRuns
pub mod SamePrograms
pub mod TableLaws
pub mod Laws
pub use Rattle.ps_heap.specs as ps_heap
pub use Rattle.reaching.specs as reaching
pub use Rattle.avl_trees.specs as avl_trees
pub use Rattle.ps_meaning.specs as ps_meaning
