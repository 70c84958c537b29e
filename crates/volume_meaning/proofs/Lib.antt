pub mod Spelled
pub mod Used
pub mod Volumes
pub mod Images
pub use Rattle.space_meaning.proofs as of_space_meaning
