pub mod EntryLaws
pub mod ListLaws
pub mod ShapeLaws
pub mod GainLaws
pub mod LoadLaws
pub mod DirLaws
pub mod FindLaws
pub mod AnswerLaws
pub mod AdmitLaws
pub mod ExtendLaws
pub mod MadeLaws
pub use Rattle.joint_ops.proofs.of_swizzle as of_swizzle
pub use Rattle.joint_ops.proofs as of_joint_ops
