pub use Rattle.ps_base.specs as ps_base
pub use Rattle.ps_layout.specs as ps_layout
