use Rattle.ps_tree.specs.ps_symbols.Symbols.{symbols}
use Rattle.ps_parse.proofs.Unique.{one_tree_of_all}
use Rattle.ps_parse.proofs.laws.tree_is_unique.Goals as goal

pub returns : goal.returns
returns c = λ text tokens nesting larger tree other read read'. one_tree_of_all text (symbols tokens) nesting larger tree other read read'
