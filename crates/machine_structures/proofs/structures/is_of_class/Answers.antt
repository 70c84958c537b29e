use Rattle.machine_operands.proofs.Parts.{fails-after, so-after}
use Rattle.machine_structures.proofs.ClassTests.{class-told}
use Rattle.machine_structures.proofs.structures.is_of_class.Goals as goal

pub returns-clause-takes : goal.returns-clause-takes
returns-clause-takes g c =
    let v = c.args.vault.now in
    let told = c.is_class-told in
    let w = told.new.vault in
    let p = c.in-Some.ensures in
    class-told c.args.k (g.V.Vault.outside v) (g.V.Vault.outside w) c.args.m.now c.pop_object.new.m told.new.self p.leaves c.in-Some.object (p.pops v)
    told.result
    c.give_flag.new.m c.give_flag.result told.ensures.leaves told.ensures.keeps told.ensures.got told.ensures.damaged (c.give_flag.ensures v w)

pub returns-clause-fails : goal.returns-clause-fails
returns-clause-fails g c =
    let v = c.args.vault.now in
    let told = c.is_class-told in
    let w = told.new.vault in
    fails-after c.give_flag.result c.give_flag.new.m (g.V.Vault.outside v) (g.V.Vault.outside w) told.result (c.give_flag.ensures v w).ends.breaks
    told.ensures.fails

pub returns-clause-alive : goal.returns-clause-alive
returns-clause-alive g c =
    let told = c.is_class-told in
    let w = told.new.vault in
    so-after c.give_flag.result c.give_flag.new.m told.result (g.V.Vault.alive w) (c.give_flag.ensures c.args.vault.now w).ends.breaks told.ensures.alive
