pub mod Concluded
pub mod Laws
pub use Rattle.session_meaning.specs as session_meaning
pub use Rattle.ps_volumes.specs as ps_volumes
pub use Rattle.volume_meaning.specs as volume_meaning
