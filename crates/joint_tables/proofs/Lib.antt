pub mod SeenLaws
pub mod OperandLaws
pub mod PairLaws
pub mod ReadLaws
pub mod EnterLaws
pub mod CountLaws
pub mod MadeLaws
pub mod NamedLaws
pub use Rattle.joint_ops.proofs as of_joint_ops
pub use Rattle.table_lib.proofs as of_table_lib
