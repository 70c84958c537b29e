use Rattle.ps_fit_laws.proofs.OfProgram.{typed_fits}
use Rattle.ps_fit_laws.proofs.laws.typed_programs_fit.Goals as goal

pub returns : goal.returns
returns c = typed_fits
