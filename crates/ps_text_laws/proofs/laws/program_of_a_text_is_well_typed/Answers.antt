use Rattle.ps_typing_laws.proofs.OfProgram.{program_typed}
use Rattle.ps_text_laws.proofs.LetsRead.{lets_are_items}
use Rattle.ps_text_laws.proofs.laws.program_of_a_text_is_well_typed.Goals as goal

pub returns : goal.returns
returns c = λ text tokens tree program reads is. program_typed tree program (lets_are_items text tokens tree reads) is
