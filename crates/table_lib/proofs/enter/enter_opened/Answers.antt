use Rattle.table_nodes.proofs.BringLaws.{brings_held}
use Rattle.table_lib.proofs.FaultLaws.{at_changes}
use Rattle.table_lib.proofs.enter.enter_opened.Goals as goal

pub returns-else-opened-clause-brings : goal.returns-else-opened-clause-brings
returns-else-opened-clause-brings g c = brings_held _ _ _ c.mark_table.ensures.none

pub returns-then-opened-clause-fault : goal.returns-then-opened-clause-fault
returns-then-opened-clause-fault g c = at_changes _ _ _ _ c.take_key.result c.take_key.ensures.fault
