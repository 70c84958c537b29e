pub mod MakingLaws
pub mod WayLaws
pub mod TextLaws
pub mod NameLaws
pub mod ReadLaws
pub mod OneWay
pub use Rattle.closures.proofs.of_swizzle as of_swizzle
pub use Rattle.closures.proofs.of_heap_texts as of_heap_texts
pub use Rattle.closures.proofs.of_heap_places as of_heap_places
pub use Rattle.heap_ops.proofs as of_heap_ops
