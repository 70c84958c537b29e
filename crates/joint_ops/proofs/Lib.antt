pub mod SeenLaws
pub mod GrowthLaws
pub mod GainLaws
pub mod WriteLaws
pub mod ValueLaws
pub mod FormLaws
pub mod ClassLaws
pub mod FieldLaws
pub mod RewriteLaws
pub mod PutLaws
pub mod ElementLaws
pub mod TextLaws
pub mod MadeLaws
pub mod CodeLaws
pub use Rattle.text_ops.proofs.of_text_forms as of_text_forms
pub use Rattle.heap_meaning.proofs.of_swizzle as of_swizzle
pub use Rattle.heap_meaning.proofs.of_heap_places as of_heap_places
pub use Rattle.heap_meaning.proofs.of_heap_ops as of_heap_ops
pub use Rattle.heap_meaning.proofs.of_proc_values as of_proc_values
pub use Rattle.heap_meaning.proofs as of_heap_meaning
