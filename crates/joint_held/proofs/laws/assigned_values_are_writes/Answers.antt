use Rattle.joint_ops.proofs.WriteLaws.{value-write}
use Rattle.joint_held.proofs.laws.assigned_values_are_writes.Goals as goal

pub returns : goal.returns
returns c = λ heap at index v sound held parts behind. value-write heap at index v sound held parts behind
