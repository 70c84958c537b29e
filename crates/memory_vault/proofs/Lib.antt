pub mod TestedLaws
pub mod HeldLaws
pub mod ToldLaws
pub use Rattle.obj_layout.proofs as of_obj_layout
