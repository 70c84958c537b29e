use Rattle.std.proofs.Common.{ap, length}
use Rattle.joint_ops.proofs.texts.length.Goals as goal

pub returns-clause-value : goal.returns-clause-value
returns-clause-value g c vault names v d = ap length (c.bytes.ensures.value vault names v d)
