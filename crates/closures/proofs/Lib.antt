pub mod ShapeLaws
pub mod ClosureLaws
pub mod ReadLaws
pub use Rattle.heap_places.proofs.of_text_forms as of_text_forms
pub use Rattle.heap_places.proofs.of_swizzle as of_swizzle
pub use Rattle.heap_places.proofs.of_heap_texts as of_heap_texts
pub use Rattle.heap_places.proofs as of_heap_places
