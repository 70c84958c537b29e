use Rattle.std.proofs.Common.{refl}
use Rattle.objects.proofs.ProcedureEntries.{cleared-so}
use Rattle.objects.proofs.known_procedures.KnownProcedures.clear.Goals as goal

pub returns : goal.returns
returns c = λ here. cleared-so here c.fill.new.self.items _ _ refl (c.fill.ensures.items (λ y is. is))
