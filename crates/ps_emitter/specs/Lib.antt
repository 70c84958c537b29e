pub mod Choices
pub mod Giving
pub mod Pieces
pub mod Instructions
pub mod Chains
pub mod inside
pub use Rattle.ps_type_text.specs as ps_type_text
pub use Rattle.ps_typing.specs as ps_typing
