use Rattle.joint_begun.proofs.CompactLaws.{has-compact}
use Rattle.joint_begun.proofs.laws.each_heap_has_a_compact_one.Goals as goal

pub returns : goal.returns
returns c = has-compact
