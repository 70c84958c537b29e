use Rattle.no_store.proofs.PutLaws.{puts-all}
use Rattle.no_store.proofs.vault.NoStoreVault.put.Goals as goal

pub returns-in-Ok-clause-told : goal.returns-in-Ok-clause-told
returns-in-Ok-clause-told g c =
    let seen = g.H.Host.outside in
    puts-all (seen c.args.self.now.host) (seen c.put.new.self) c.args.bytes.now _ c.put.result c.put.ensures.cut c.in-Ok.ensures.all c.in-Ok.ensures.calm c.put.ensures.call
