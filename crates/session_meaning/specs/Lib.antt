pub mod Meant
pub mod Shows
pub mod Laws
pub use Rattle.session_run.specs as session_run
pub use Rattle.space_meaning.specs as space_meaning
pub use Rattle.unit_meaning.specs as unit_meaning
