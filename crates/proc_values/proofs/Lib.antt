pub mod ReadLaws
pub mod UnitLaws
pub mod LoadLaws
pub mod FitLaws
pub mod LinkLaws
pub mod FoundLaws
pub mod CodeLaws
pub mod WrittenLaws
pub mod LoadedLaws
pub mod StayLaws
pub use Rattle.ps_base.proofs as of_ps_base
pub use Rattle.heap_texts.proofs.of_obj_area as of_obj_area
pub use Rattle.heap_texts.proofs.of_obj_layout as of_obj_layout
pub use Rattle.heap_texts.proofs.of_swizzle as of_swizzle
pub use Rattle.heap_texts.proofs as of_heap_texts
