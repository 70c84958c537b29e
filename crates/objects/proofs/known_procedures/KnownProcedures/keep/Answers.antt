use Rattle.objects.proofs.ProcedureEntries.{put-so}
use Rattle.objects.proofs.known_procedures.KnownProcedures.keep.Goals as goal

pub returns-then-index-len : goal.returns-then-index-len
returns-then-index-len c = λ here so is. put-so here c.args.self.now.entries.items c.index_of-index.result _ so is
