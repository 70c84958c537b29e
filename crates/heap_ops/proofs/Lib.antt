pub mod ClassLaws
pub mod FieldLaws
pub mod LayoutLaws
pub mod ShapeLaws
pub mod VectorLaws
pub mod MadeVectors
pub use Rattle.heap_places.proofs.of_swizzle as of_swizzle
pub use Rattle.heap_places.proofs.of_heap_texts as of_heap_texts
pub use Rattle.heap_places.proofs as of_heap_places
