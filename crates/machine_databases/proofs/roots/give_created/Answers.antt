use Rattle.std.proofs.Common.{Some, refl}
use Rattle.machine_databases.specs.inside.Giving.{HasPlace}
use Rattle.machine_databases.proofs.Naming.{names-more, names-with, unused-only}
use Rattle.machine_databases.proofs.Pushing.{root-given}
use Rattle.machine_core.specs.joint_held.Opening.{and_source}
use Rattle.machine_databases.proofs.roots.give_created.Goals as goal

pub push_object-requires-clause-names : goal.push_object-requires-clause-names
push_object-requires-clause-names g c =
    let m = c.args.m.now in
    let w = m.databases in
    let d = c.open_for_writing.new.databases in
    let o = c.if-not-open_for_writing.ensures in
    names-with m (record { writing = d.writing; asked = d.asked; directory = Some c.args.directory }) c.requires.names
    (names-more m.objects w.writing.items d.writing.items w.directory (Some c.args.directory) _ _ c.args.number (Some c.args.root) c.requires.names.databases o.writing_are o.room
    (λ at e. unused-only m.objects w.writing.items c.args.root at c.requires.unused e) c.requires.shaped)

pub returns : goal.returns
returns g c = λ v w.
    let m = c.args.m.now in
    let ws = m.databases.writing.items in
    let d = c.open_for_writing.new.databases in
    let o = c.if-not-open_for_writing.ensures in
    root-given (g.V.Vault.outside v) (g.V.Vault.outside w) (HasPlace ws) (and_source ws c.args.number (Some c.args.root)) (Some c.args.directory) c.args.root m
    (record { writing = d.writing; asked = d.asked; directory = Some c.args.directory }) c.push_object.new.m o.writing_are o.asked refl (c.push_object.ensures w)
