use Rattle.std.proofs.Common.{arith}
use Rattle.objects.proofs.ProcedureEntries.{found-so}
use Rattle.objects.proofs.known_procedures.KnownProcedures.find.Goals as goal

pub returns-then-known-procedure : goal.returns-then-known-procedure
returns-then-known-procedure c =
    λ here so. found-so here c.args.self.now.entries.items c.index_of-index.result c.args.procedure _ so
    (omega (arith, c.if-index-len.false, c.len.ensures)) c.index-known.ensures c.requires c.if-known-procedure.true
