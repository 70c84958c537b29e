use Rattle.machine_tables.proofs.Going.{scanned-int}
use Rattle.machine_tables.proofs.scans.scan_ints.Goals as goal

pub returns-clause-takes : goal.returns-clause-takes
returns-clause-takes g c =
    let v = c.args.vault.now in
    let out = g.V.Vault.outside v in
    let did = c.next_int in
    scanned-int out (g.V.Vault.outside did.new.vault) c.args.m.now did.new.m did.result c.args.scan c.in-Some.table c.last_int-after.result did.ensures.follows
    (c.in-Some.ensures.reads v) (λ names conf h. c.last_int-after.ensures.is v names conf h)
