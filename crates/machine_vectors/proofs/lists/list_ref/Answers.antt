use Rattle.machine_vectors.specs.inside.Making.{references_listed}
use Rattle.machine_vectors.proofs.Types.{type-then}
use Rattle.machine_vectors.proofs.lists.list_ref.Goals as goal

pub returns-in-Ok-clause-takes : goal.returns-in-Ok-clause-takes
returns-in-Ok-clause-takes g c =
    let read = c.text_constant in
    let given = c.in-Ok.ensures in
    let made = c.list_references in
    type-then (g.V.Vault.outside c.args.vault.now) (g.V.Vault.outside read.new.vault) c.args.k (references_listed c.args.n c.args.line) c.args.m.now read.new.m made.new.m c.in-Ok.ty
    made.result given.leaves given.ends given.reads made.ensures.makes
