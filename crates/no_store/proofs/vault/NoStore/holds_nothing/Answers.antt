use Rattle.no_store.proofs.HoldingLaws.{holds-nothing}
use Rattle.no_store.proofs.vault.NoStore.holds_nothing.Goals as goal

pub returns : goal.returns
returns g c = holds-nothing (g.H.Host.outside c.args.self.now.host)
