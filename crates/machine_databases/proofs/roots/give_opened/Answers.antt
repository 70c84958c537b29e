use Rattle.machine_databases.specs.inside.Giving.{HasPlaceFor, and_opened}
use Rattle.machine_databases.proofs.Naming.{names-opened, names-with}
use Rattle.machine_databases.proofs.Pushing.{root-given}
use Rattle.machine_databases.proofs.roots.give_opened.Goals as goal

pub push_object-requires-clause-names : goal.push_object-requires-clause-names
push_object-requires-clause-names g c =
    let m = c.args.m.now in
    let w = m.databases in
    let d = c.open_as.new.databases in
    let o = c.if-not-open_as.ensures in
    names-with m d c.requires.names
    (names-opened m.objects w.writing.items d.writing.items w.directory d.directory _ _ c.args.number c.args.for_writing c.requires.names.databases o.writing_are o.room o.directory)

pub returns : goal.returns
returns g c = λ v w.
    let m = c.args.m.now in
    let ws = m.databases.writing.items in
    let d = c.open_as.new.databases in
    let o = c.if-not-open_as.ensures in
    root-given (g.V.Vault.outside v) (g.V.Vault.outside w) (HasPlaceFor ws c.args.number c.args.for_writing) (and_opened ws c.args.number c.args.for_writing) m.databases.directory
    c.args.root m d c.push_object.new.m o.writing_are o.asked o.directory (c.push_object.ensures w)
