use Rattle.ps_base.specs.declared.line.Line.{Line}
use Rattle.ps_tree.specs.ps_symbols.declared.kind.Kind.TheVariants as kind
use Rattle.ps_tree.specs.Phrase.{NameAt}
use Rattle.ps_tree.specs.Phrase as form
use Rattle.ps_reader.specs.Grammar.{Rule, Go, Then, Parameters, skip, give, the_groups}
use Rattle.ps_reader.specs.inside.Stopping.{HaltsWith}
use Rattle.ps_reader.proofs.Steps.{on, took, missing, behind_first, failed, built}
use Rattle.ps_reader.proofs.reader.Reader.structure_item.Goals as goal

-- what stands after the name of a class
abbrev behind : Line → NameAt → Rule
behind line name = skip kind.OpenRound (Then (Go Parameters) (λ fields. skip kind.CloseRound (give (form.Structure name (the_groups fields)) line)))

pub returns-in_err-line : goal.returns-in_err-line
returns-in_err-line c = failed _ _ c.from_residual.ensures.1 (c.in_err-line.ensures c.args.room behind)

pub returns-in_err-take : goal.returns-in_err-take
returns-in_err-take c = failed _ _ c.from_residual-in_err-take.ensures.1 ((c.in_ok-line.ensures c.args.room behind).halts _ (missing c.in_err-take.ensures))

pub returns-in_err-fields : goal.returns-in_err-fields
returns-in_err-fields c = failed _ _ c.from_residual-in_err-fields.ensures.1 ((on (c.in_ok-line.ensures c.args.room behind) (took c.in_ok-take.ensures)).halts _ (HaltsWith.in_first c.in_err-fields.ensures))

pub returns-in_err-take-2 : goal.returns-in_err-take-2
returns-in_err-take-2 c = failed _ _ c.from_residual-in_err-take-2.ensures.1 ((on (c.in_ok-line.ensures c.args.room behind) (on (took c.in_ok-take.ensures) (behind_first c.in_ok-fields.ensures))).halts _ (missing c.in_err-take-2.ensures))

pub returns : goal.returns
returns c = built _ c.structure_of.ensures.made c.structure_of.ensures.fault (on (c.in_ok-line.ensures c.args.room behind) (on (took c.in_ok-take.ensures) (on (behind_first c.in_ok-fields.ensures) (took c.in_ok-take-2.ensures))))
