pub mod TextObjects
pub use Rattle.ps_heap.proofs.of_text_forms as of_text_forms
pub use Rattle.swizzle.proofs.of_obj_area as of_obj_area
pub use Rattle.swizzle.proofs.of_obj_layout as of_obj_layout
pub use Rattle.swizzle.proofs as of_swizzle
