pub mod StandingLaws
pub mod TableLaws
pub mod HeapLaws
pub mod TreeLaws
mod TableRows
pub mod PlaceLaws
pub mod WriteLaws
pub mod FieldLaws
pub mod GivenLaws
pub mod VectorLaws
pub mod PairedLaws
pub mod ScopeLaws
pub use Rattle.proc_values.proofs.of_obj_area as of_obj_area
pub use Rattle.proc_values.proofs.of_obj_layout as of_obj_layout
pub use Rattle.proc_values.proofs.of_swizzle as of_swizzle
pub use Rattle.heap_ops.proofs.of_heap_places as of_heap_places
pub use Rattle.heap_ops.proofs as of_heap_ops
pub use Rattle.proc_values.proofs as of_proc_values
pub use Rattle.node_rows.proofs as of_node_rows
