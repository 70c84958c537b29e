use Rattle.closures.proofs.ReadLaws.{closure-sound, closure-code, closure-scope}
use Rattle.closures.proofs.laws.closure_is_read.Goals as goal

pub returns-clause-shape : goal.returns-clause-shape
returns-clause-shape c = closure-sound

pub returns-clause-code : goal.returns-clause-code
returns-clause-code c = closure-code

pub returns-clause-scope : goal.returns-clause-scope
returns-clause-scope c = closure-scope
