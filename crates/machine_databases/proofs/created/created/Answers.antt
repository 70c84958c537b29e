use Rattle.machine_databases.specs.inside.Answering.{AreCredentials, create_with}
use Rattle.machine_databases.proofs.Calling.{credentials-carried, follows-asked}
use Rattle.machine_databases.proofs.created.created.Goals as goal

pub returns-in-Ok-clause-follows : goal.returns-in-Ok-clause-follows
returns-in-Ok-clause-follows g c =
    let before = g.V.Vault.outside c.args.vault.now in
    let mid = g.V.Vault.outside c.ask.new.vault in
    let after = g.V.Vault.outside c.answer_create.new.vault in
    let m = c.args.m.now in
    let n = c.ask.new.m in
    follows-asked before mid after (AreCredentials m.objects before c.args.name c.args.password) (AreCredentials n.objects mid c.args.name c.args.password) create_with m n
    c.answer_create.new.m c.answer_create.result c.in-Ok.ensures.asks c.in-Ok.ensures.leaves
    (λ names a k d. credentials-carried m.objects n.objects before mid names names c.args.name c.args.password a k d) c.answer_create.ensures.follows
