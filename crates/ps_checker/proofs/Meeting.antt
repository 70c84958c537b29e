-- Clauses of a wanted type.
use Rattle.std.proofs.Common.{◌≡◌, subst}
use Rattle.ps_base.specs.TyView.{TyView}
use Rattle.ps_base.specs.declared.line.Line.{Line}
use Rattle.ps_program.specs.Node.{Node}
use Rattle.ps_steps.specs.ps_typing.Names.{Names}
use Rattle.ps_steps.specs.ps_typing.Checking.{Outcome, Gives}
use Rattle.ps_steps.specs.ps_declared.declared.fault.CheckFault.{CheckFault}
use Rattle.ps_steps.specs.ps_declared.inside.Answers.{IsFault}
use Rattle.ps_steps.specs.ps_checked.inside.Parts.{Want, any, this, passing, meets}
use Rattle.ps_steps.proofs.of_ps_declared.Steps.{fails_test}

-- the fault of a clause is that of the clause with its type
pub fails_unmet : (want : Want) (line : Line) (o : Outcome Node) (fault : CheckFault) → IsFault o fault → IsFault (meets want line o) fault
fails_unmet any line o fault h = h
fails_unmet (this ty) line o fault h = fails_test _ _ _ _ _ h
fails_unmet (passing test) line o fault h = fails_test _ _ _ _ _ h

-- what is wanted in other words
pub as_met : (line : Line) (o : Outcome Node) (tree : Node) (ty : TyView) (n : Names) {own want : Want} → own ≡ want → meets own line o ≡ Gives tree ty n → meets want line o ≡ Gives tree ty n
as_met line o tree ty n alike is = subst (λ w. meets w line o ≡ Gives tree ty n) alike is

pub fails_met : (line : Line) (o : Outcome Node) (fault : CheckFault) {own want : Want} → own ≡ want → IsFault (meets own line o) fault → IsFault (meets want line o) fault
fails_met line o fault alike is = subst (λ w. IsFault (meets w line o) fault) alike is
