pub mod Keeping
pub mod Programs
pub use Rattle.joint_begun.specs as joint_begun
pub use Rattle.space_meaning.specs as space_meaning
pub use Rattle.ps_code_laws.specs as ps_code_laws
