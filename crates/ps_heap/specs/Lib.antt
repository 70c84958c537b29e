pub mod Operators
pub mod Answers
pub mod Values
pub mod Texts
pub mod Ends
pub mod Tables
pub mod Objects
pub mod Scopes
pub mod References
pub mod Weights
pub mod Databases
pub mod Held
pub mod Commit
pub mod Events
pub mod Calls
pub mod Library
pub mod Scans
pub use Rattle.ps_base.specs as ps_base
pub use Rattle.ps_typing.specs.ps_program as ps_program
pub use Rattle.text_forms.specs as text_forms
pub use Rattle.ps_typing.specs as ps_typing
pub use Rattle.reaching.specs as reaching
pub use Rattle.avl_trees.specs as avl_trees
