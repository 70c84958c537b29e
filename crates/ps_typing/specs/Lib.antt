pub mod Fault
pub mod Names
pub mod Library
pub mod Checking
pub mod Mentions
pub mod Placing
pub mod Placed
pub mod Program
pub mod Items
pub mod WellTyped
pub mod Locals
pub use Rattle.ps_tree.specs.ps_base as ps_base
pub use Rattle.ps_type_text.specs as ps_type_text
pub use Rattle.ps_program.specs as ps_program
pub use Rattle.ps_tree.specs as ps_tree
