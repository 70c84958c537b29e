use Rattle.ps_parse.proofs.Faults.{no_fault_of_tree}
use Rattle.ps_parse.proofs.laws.tree_excludes_fault.Goals as goal

pub returns : goal.returns
returns c = λ text tokens tree fault read has. no_fault_of_tree text tokens tree fault read has
