pub mod inside
pub use Rattle.ps_checker.specs.ps_declared as ps_declared
