pub mod Leaves
pub use Rattle.ps_parse.specs.ps_base as ps_base
pub use Rattle.ps_soundness.specs.ps_type_text as ps_type_text
pub use Rattle.ps_soundness.specs.ps_program as ps_program
pub use Rattle.ps_parse.specs.ps_scan as ps_scan
pub use Rattle.ps_parse.specs.ps_symbols as ps_symbols
pub use Rattle.ps_parse.specs.ps_tree as ps_tree
pub use Rattle.ps_parse.specs.ps_reader as ps_reader
pub use Rattle.ps_parse.specs as ps_parse
pub use Rattle.ps_soundness.specs.ps_typing as ps_typing
pub use Rattle.ps_soundness.specs.ps_heap as ps_heap
pub use Rattle.ps_soundness.specs.ps_meaning as ps_meaning
pub use Rattle.ps_soundness.specs as ps_soundness
