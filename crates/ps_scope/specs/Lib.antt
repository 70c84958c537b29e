pub mod Views
pub mod Content
pub mod inside
pub use Rattle.ps_typing.specs as ps_typing
