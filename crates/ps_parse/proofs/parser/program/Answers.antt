use Rattle.std.proofs.Common.{◌≡◌, None, refl}
use Rattle.ps_tree.specs.ps_symbols.declared.kind.Kind.{Kind}
use Rattle.ps_tree.specs.ps_symbols.declared.kind.Kind.TheVariants as kind
use Rattle.ps_tree.specs.Phrase.{Phrase}
use Rattle.ps_reader.specs.Grammar.{ended, ending}
use Rattle.ps_reader.specs.inside.Stopping.{HaltsWith}
use Rattle.ps_reader.proofs.Steps.{on, took, by_row, behind_first, failed}
use Rattle.ps_reader.proofs.Rows.{goes_as, halts_by}
use Rattle.ps_parse.proofs.parser.program.Goals as goal

ending_other : (all : Phrase) (k : Kind) → (k ≡ kind.Question → ⊥) → (k ≡ kind.EndOfText → ⊥) → ending all k ≡ None
ending_other all kind.Question not_Question not_EndOfText = absurd (not_Question refl)
ending_other all kind.EndOfText not_Question not_EndOfText = absurd (not_EndOfText refl)
ending_other all _ not_Question not_EndOfText = refl

ended_other : (all : Phrase) (k : Kind) → (k ≡ kind.EndOfText → ⊥) → ended all k ≡ None
ended_other all kind.EndOfText not_EndOfText = absurd (not_EndOfText refl)
ended_other all _ not_EndOfText = refl

pub returns-in_err-all : goal.returns-in_err-all
returns-in_err-all c = failed _ _ c.from_residual.ensures.1 (HaltsWith.in_part refl (HaltsWith.in_first c.in_err-all.ensures))

pub returns-in-EndOfText : goal.returns-in-EndOfText
returns-in-EndOfText c = (on (by_row refl) (on (behind_first c.in_ok-all.ensures) (goes_as c.kind_at.ensures c.in-EndOfText.is refl)))

pub returns-in_default : goal.returns-in_default
returns-in_default c = (on (by_row refl) (behind_first c.in_ok-all.ensures)).halts _ (halts_by c.kind_at.ensures (ending_other _ _ c.in_default.not-Question c.in_default.not-EndOfText) c.unexpected-in_default.ensures)

pub returns-in-EndOfText-kind_at : goal.returns-in-EndOfText-kind_at
returns-in-EndOfText-kind_at c = (on (by_row refl) (on (behind_first c.in_ok-all.ensures) (on (goes_as c.kind_at.ensures c.in-Question.is refl) (on (took c.in_ok-take-in-Question.ensures) (goes_as c.kind_at-in-Question.ensures c.in-EndOfText-kind_at.is refl)))))

pub returns-in_default-kind_at : goal.returns-in_default-kind_at
returns-in_default-kind_at c = (on (by_row refl) (on (behind_first c.in_ok-all.ensures) (on (goes_as c.kind_at.ensures c.in-Question.is refl) (took c.in_ok-take-in-Question.ensures)))).halts _ (halts_by c.kind_at-in-Question.ensures (ended_other _ _ c.in_default-kind_at.not-EndOfText) c.unexpected.ensures)
