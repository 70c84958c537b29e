use Rattle.ps_code_laws.proofs.Bodies.{typed_program_fits}
use Rattle.ps_code_laws.proofs.laws.typed_programs_fit.Goals as goal

pub returns : goal.returns
returns c = typed_program_fits c.typed_bodies_are_fit.ensures
