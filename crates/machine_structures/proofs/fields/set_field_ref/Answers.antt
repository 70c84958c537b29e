use Rattle.machine_structures.proofs.FieldWrites.{reference-set}
use Rattle.machine_structures.proofs.fields.set_field_ref.Goals as goal

pub returns-clause-takes : goal.returns-clause-takes
returns-clause-takes g c =
    let v = c.args.vault.now in
    let p = c.in-Some.ensures in
    let did = c.put_field in
    reference-set (g.V.Vault.outside v) (g.V.Vault.outside did.new.vault) c.args.k c.args.n c.args.line c.args.m.now c.pop_any.new.m p.leaves c.in-Some.to
    did.new.m
    did.result (p.pops v) did.ensures.puts
