use Rattle.ps_typing_laws.proofs.SameCounts.{program_measures, program_complex}
use Rattle.ps_typing_laws.proofs.laws.placing_keeps_slot_counts.Goals as goal

pub returns-clause-counts : goal.returns-clause-counts
returns-clause-counts c = program_measures

pub returns-clause-complex : goal.returns-clause-complex
returns-clause-complex c = program_complex
