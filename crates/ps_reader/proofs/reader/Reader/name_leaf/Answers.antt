use Rattle.ps_tree.specs.Phrase.{NameAt}
use Rattle.ps_tree.specs.Phrase as form
use Rattle.ps_reader.specs.Grammar.{give}
use Rattle.ps_reader.proofs.Steps.{took_name, failed, built}
use Rattle.ps_reader.proofs.reader.Reader.name_leaf.Goals as goal

pub returns-in_err-name : goal.returns-in_err-name
returns-in_err-name c = failed _ _ c.from_residual.ensures.1 (c.in_err-name.ensures _ _)

pub returns : goal.returns
returns c = built _ c.name_of.ensures.made c.name_of.ensures.fault (took_name (λ (name : NameAt). give (form.Name name.name) name.line) c.in_ok-name.ensures)
