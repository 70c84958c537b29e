pub mod Counted
pub use Rattle.ps_typing.specs.ps_type_text as ps_type_text
pub use Rattle.ps_typing.specs.ps_program as ps_program
pub use Rattle.ps_typing.specs.ps_tree as ps_tree
pub use Rattle.ps_typing.specs as ps_typing
