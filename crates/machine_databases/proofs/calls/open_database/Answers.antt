use Rattle.machine_databases.proofs.Popped.{open-taken}
use Rattle.machine_databases.proofs.calls.open_database.Goals as goal

pub returns-clause-takes : goal.returns-clause-takes
returns-clause-takes g c = λ line.
    let v = c.args.vault.now in
    let p = c.in-Some.ensures in
    let q = c.in-Some-pop_text.ensures in
    let s = c.in-Some-pop_text-2.ensures in
    open-taken (g.V.Vault.outside v) (g.V.Vault.outside c.opened.new.vault) line c.args.m.now c.pop_text.new.m c.pop_text-2.new.m c.pop_text-3.new.m c.opened.new.m c.opened.result
    c.in-Some-pop_text-2.name c.in-Some-pop_text.password c.in-Some.mode p.leaves q.leaves s.leaves (p.pops v).gives (q.pops v).gives (s.pops v).gives c.opened.ensures.follows
