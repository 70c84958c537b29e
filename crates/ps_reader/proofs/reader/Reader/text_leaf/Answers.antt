use Rattle.std.proofs.Common.{ℕ, List, ap, sym, refl, ◌∙◌}
use Rattle.ps_tree.specs.Phrase as form
use Rattle.ps_reader.specs.Grammar.{give}
use Rattle.ps_reader.specs.inside.Stopping.{HaltsWith}
use Rattle.ps_reader.proofs.Steps.{on, took, missing, same, failed, built}
use Rattle.ps_reader.proofs.reader.Reader.text_leaf.Goals as goal

pub returns-in_err-string : goal.returns-in_err-string
returns-in_err-string c = failed _ _ c.from_residual.ensures.1 (missing c.in_err-string.ensures)

pub returns-in_err-bytes : goal.returns-in_err-bytes
returns-in_err-bytes c = failed _ _ c.from_residual-in_err-bytes.ensures.1 (HaltsWith.out_of_memory refl)

pub returns : goal.returns
returns c = built _ c.form_at.ensures.made c.form_at.ensures.fault (on (took c.in_ok-string.ensures) (same (ap (λ (b : List ℕ). give (form.Text b) c.in_ok-string.string.token.line) (sym (c.new.ensures ∙ c.in_ok-bytes.ensures)))))
