use Rattle.ps_typing_laws.proofs.OfProgram.{program_typed}
use Rattle.ps_typing_laws.proofs.laws.typed_program_is_well_typed.Goals as goal

pub returns : goal.returns
returns c = program_typed
