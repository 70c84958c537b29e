pub mod Copying
pub use Rattle.heap_texts.proofs.of_text_forms as of_text_forms
pub use Rattle.heap_texts.proofs.of_obj_area as of_obj_area
pub use Rattle.heap_texts.proofs.of_swizzle as of_swizzle
pub use Rattle.heap_texts.proofs as of_heap_texts
