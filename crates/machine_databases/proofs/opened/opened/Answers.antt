use Rattle.machine_databases.specs.inside.Answering.{AreEntry, open_with}
use Rattle.machine_databases.proofs.Calling.{entry-carried, follows-asked, follows-broken}
use Rattle.machine_databases.proofs.opened.opened.Goals as goal

pub returns-in-Ok-clause-follows : goal.returns-in-Ok-clause-follows
returns-in-Ok-clause-follows g c =
    let before = g.V.Vault.outside c.args.vault.now in
    let mid = g.V.Vault.outside c.ask.new.vault in
    let after = g.V.Vault.outside c.answer_open.new.vault in
    let m = c.args.m.now in
    let n = c.ask.new.m in
    follows-asked before mid after (AreEntry m.objects before c.args.name c.args.password c.args.mode) (AreEntry n.objects mid c.args.name c.args.password c.args.mode) open_with m n
    c.answer_open.new.m c.answer_open.result c.in-Ok.ensures.asks c.in-Ok.ensures.leaves
    (λ names a k d. entry-carried m.objects n.objects before mid names names c.args.name c.args.password c.args.mode a k d) c.answer_open.ensures.follows

pub returns-in-Err-clause-follows : goal.returns-in-Err-clause-follows
returns-in-Err-clause-follows g c =
    let before = g.V.Vault.outside c.args.vault.now in
    let after = g.V.Vault.outside c.ask.new.vault in
    let m = c.args.m.now in
    follows-broken before after after (AreEntry m.objects before c.args.name c.args.password c.args.mode) (AreEntry m.objects before c.args.name c.args.password c.args.mode) open_with
    m c.ask.new.m c.in-Err.fault c.requires.sound c.in-Err.ensures.asks
