use Rattle.table_lib.proofs.FaultLaws.{at_nodes}
use Rattle.table_lib.proofs.words.counted_root.Goals as goal

pub returns-clause-fault : goal.returns-clause-fault
returns-clause-fault g c = at_nodes _ _ _ c.root_node.result c.root_node.ensures.fault
