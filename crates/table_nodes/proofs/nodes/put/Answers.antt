use Rattle.table_nodes.proofs.PutLaws.{puts_still}
use Rattle.table_nodes.proofs.Sparing.{spares_none}
use Rattle.table_nodes.proofs.nodes.put.Goals as goal

pub returns-then-denotes-clause-put : goal.returns-then-denotes-clause-put
returns-then-denotes-clause-put g c = puts_still c.args.sw.now (g.V.Vault.outside c.args.vault.now) c.args.at c.args.value c.sound.ensures (c.denotes.ensures.yes c.if-denotes.true)

pub returns-then-denotes-clause-spares : goal.returns-then-denotes-clause-spares
returns-then-denotes-clause-spares g c = spares_none c.args.sw.now (g.V.Vault.outside c.args.vault.now)
