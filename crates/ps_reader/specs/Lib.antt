pub mod Faults
pub mod Grammar
pub mod Reading
pub mod inside
pub use Rattle.ps_scan.specs as ps_scan
