use Rattle.ps_typing_laws.proofs.Tracked.{program_counted}
use Rattle.ps_typing_laws.proofs.laws.slots_are_counted.Goals as goal

pub returns : goal.returns
returns c = program_counted
