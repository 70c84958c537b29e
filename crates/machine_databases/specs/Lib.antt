pub mod Asking
pub mod Calls
pub mod Refusing
pub mod inside
pub use Rattle.machine_core.specs as machine_core
