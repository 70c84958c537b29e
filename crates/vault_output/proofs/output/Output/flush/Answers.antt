use Rattle.vault_output.proofs.SendingLaws.{only-output}
use Rattle.vault_output.proofs.output.Output.flush.Goals as goal

pub returns-clause-fault : goal.returns-clause-fault
returns-clause-fault g c = only-output _ c.put-answer.ensures.told.other c.put-answer.ensures.full c.put-answer.ensures.pages c.put-answer.ensures.sound
