use Rattle.std.proofs.Common.{ap, sym, ◌∙◌, rules, w32}
use Rattle.std.proofs.lemmas.Int.{to_z-of_z, ints}
use Rattle.ps_tree.specs.Phrase as form
use Rattle.ps_reader.specs.Grammar.{give}
use Rattle.ps_reader.proofs.Steps.{on, took, missing, same, failed, built}
use Rattle.ps_reader.proofs.reader.Reader.int_leaf.Goals as goal

pub returns-in_err-symbol : goal.returns-in_err-symbol
returns-in_err-symbol c = failed _ _ c.from_residual.ensures.1 (missing c.in_err-symbol.ensures)

pub returns : goal.returns
returns c = built _ c.form_at.ensures.made c.form_at.ensures.fault (on (took c.in_ok-symbol.ensures) (same (ap (λ value. give (form.Int value) c.in_ok-symbol.symbol.token.line) (sym (to_z-of_z w32 c.int_of.result (search (rules, ints)) ∙ c.int_of.ensures)))))
