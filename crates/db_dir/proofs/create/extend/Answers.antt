use Rattle.std.proofs.Common.{arith}
use Rattle.joint_ops.proofs.of_swizzle.MadeLaws.{made-other}
use Rattle.joint_ops.specs.obj_layout.declared.reference.Reference.TheVariants.{Local}
use Rattle.db_dir.specs.Directories.{refs_in}
use Rattle.db_dir.proofs.ExtendLaws.{grown_directory, grown-place, grown-named}
use Rattle.db_dir.proofs.create.extend.Goals as goal

pub set_ref-requires-clause-held : goal.set_ref-requires-clause-held
set_ref-requires-clause-held c =
    (grown-place c.args.sw.now c.grow.new.sw c.args.directory c.args.count c.in-Ok.made c.sound.ensures c.requires.directory c.requires.counts c.in-Ok.ensures).0

pub set_ref-requires-clause-below : goal.set_ref-requires-clause-below
set_ref-requires-clause-below c =
    let there = grown-place c.args.sw.now c.grow.new.sw c.args.directory c.args.count c.in-Ok.made c.sound.ensures c.requires.directory c.requires.counts c.in-Ok.ensures in
    omega (arith, there.1)

pub set_ref-requires-clause-target : goal.set_ref-requires-clause-target
set_ref-requires-clause-target c =
    (made-other c.args.sw.now c.grow.new.sw c.in-Ok.made (grown_directory (refs_in c.args.sw.now c.args.directory)) c.args.name c.in-Ok.ensures c.requires.name).0

pub set_ref-requires-2-clause-held : goal.set_ref-requires-2-clause-held
set_ref-requires-2-clause-held c =
    let there = grown-place c.args.sw.now c.grow.new.sw c.args.directory c.args.count c.in-Ok.made c.sound.ensures c.requires.directory c.requires.counts c.in-Ok.ensures in
    (c.set_ref.ensures.stands c.in-Ok.made there.0).held

pub set_ref-requires-2-clause-below : goal.set_ref-requires-2-clause-below
set_ref-requires-2-clause-below c =
    let there = grown-place c.args.sw.now c.grow.new.sw c.args.directory c.args.count c.in-Ok.made c.sound.ensures c.requires.directory c.requires.counts c.in-Ok.ensures in
    omega (arith, there.1, (c.set_ref.ensures.stands c.in-Ok.made there.0).refs)

pub set_ref-requires-2-clause-target : goal.set_ref-requires-2-clause-target
set_ref-requires-2-clause-target c =
    (c.set_ref.ensures.stands c.args.password
    (made-other c.args.sw.now c.grow.new.sw c.in-Ok.made (grown_directory (refs_in c.args.sw.now c.args.directory)) c.args.password c.in-Ok.ensures c.requires.password).0).held

pub set_ref-requires-3-clause-held : goal.set_ref-requires-3-clause-held
set_ref-requires-3-clause-held c =
    let there = grown-place c.args.sw.now c.grow.new.sw c.args.directory c.args.count c.in-Ok.made c.sound.ensures c.requires.directory c.requires.counts c.in-Ok.ensures in
    (c.set_ref-2.ensures.stands c.in-Ok.made (c.set_ref.ensures.stands c.in-Ok.made there.0).held).held

pub set_ref-requires-3-clause-below : goal.set_ref-requires-3-clause-below
set_ref-requires-3-clause-below c =
    let there = grown-place c.args.sw.now c.grow.new.sw c.args.directory c.args.count c.in-Ok.made c.sound.ensures c.requires.directory c.requires.counts c.in-Ok.ensures in
    let stands = c.set_ref.ensures.stands c.in-Ok.made there.0 in
    omega (arith, there.1, stands.refs, (c.set_ref-2.ensures.stands c.in-Ok.made stands.held).refs)

pub set_ref-requires-3-clause-target : goal.set_ref-requires-3-clause-target
set_ref-requires-3-clause-target c =
    (c.set_ref-2.ensures.stands c.args.root
    (c.set_ref.ensures.stands c.args.root
    (made-other c.args.sw.now c.grow.new.sw c.in-Ok.made (grown_directory (refs_in c.args.sw.now c.args.directory)) c.args.root c.in-Ok.ensures c.requires.root).0).held).held

pub returns : goal.returns
returns c =
    grown-named c.args.sw.now c.grow.new.sw c.set_ref.new.self c.set_ref-2.new.self c.set_ref-3.new.self c.args.directory c.args.count c.in-Ok.made (Local c.args.name)
    (Local c.args.password) (Local c.args.root) c.sound.ensures c.requires.directory c.requires.counts c.in-Ok.ensures c.set_ref.ensures.written
    c.set_ref-2.ensures.written c.set_ref-3.ensures.written
