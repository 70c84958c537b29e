use Rattle.machine_databases.proofs.Popped.{create-taken}
use Rattle.machine_databases.proofs.calls.create_database.Goals as goal

pub returns-clause-takes : goal.returns-clause-takes
returns-clause-takes g c = λ line.
    let v = c.args.vault.now in
    let p = c.in-Some.ensures in
    let q = c.in-Some-pop_text.ensures in
    create-taken (g.V.Vault.outside v) (g.V.Vault.outside c.created.new.vault) line c.args.m.now c.pop_text.new.m c.pop_text-2.new.m c.created.new.m c.created.result
    c.in-Some-pop_text.name c.in-Some.password p.leaves q.leaves (p.pops v).gives (q.pops v).gives c.created.ensures.follows
