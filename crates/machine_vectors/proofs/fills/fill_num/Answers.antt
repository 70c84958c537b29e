use Rattle.machine_vectors.specs.inside.Making.{numbers_filled}
use Rattle.machine_vectors.proofs.Types.{type-then}
use Rattle.machine_vectors.proofs.fills.fill_num.Goals as goal

pub returns-in-Ok-clause-takes : goal.returns-in-Ok-clause-takes
returns-in-Ok-clause-takes g c =
    let read = c.text_constant in
    let given = c.in-Ok.ensures in
    let made = c.fill_numbers in
    type-then (g.V.Vault.outside c.args.vault.now) (g.V.Vault.outside read.new.vault) c.args.k (numbers_filled c.args.line) c.args.m.now read.new.m made.new.m c.in-Ok.ty
    made.result given.leaves given.ends given.reads made.ensures.makes
