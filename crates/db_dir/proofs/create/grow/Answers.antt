use Rattle.std.proofs.Common.{arith, ◌+◌, ◌*◌, ap}
use Rattle.joint_ops.specs.obj_layout.declared.kind.Kind.TheVariants.{Directory}
use Rattle.joint_ops.specs.swizzle.Objects.{Object}
use Rattle.joint_ops.specs.swizzle.Heap.{blank}
use Rattle.joint_ops.proofs.of_swizzle.MadeLaws.{made-held, made-object}
use Rattle.db_dir.proofs.ExtendLaws.{grown-some}
use Rattle.db_dir.proofs.ShapeLaws.{some-held}
use Rattle.db_dir.proofs.create.grow.Goals as goal

pub copy_refs-requires-clause-to : goal.copy_refs-requires-clause-to
copy_refs-requires-clause-to c = made-held c.args.sw.now c.make.new.self c.in-Ok.made (blank Directory (3 * c.args.count + 3) 1 0) c.in-Ok.ensures.made

pub copy_refs-requires-clause-to_below : goal.copy_refs-requires-clause-to_below
copy_refs-requires-clause-to_below c =
    omega (
      arith,
      ap (λ (o : Object). o.header.refs) (made-object c.args.sw.now c.make.new.self c.in-Ok.made (blank Directory (3 * c.args.count + 3) 1 0) c.in-Ok.ensures.made),
    )

pub returns-in-Some : goal.returns-in-Some
returns-in-Some c =
    let held = some-held c.args.sw.now c.args.directory c.requires.directory c.in-Some.at c.in-Some.is in
    grown-some c.args.sw.now c.copy_refs.new.sw c.args.directory c.in-Some.at c.args.count c.in-Ok.made c.sound.ensures held c.in-Some.is c.requires.counts
    (c.copy_refs.ensures c.args.sw.now (blank Directory (3 * c.args.count + 3) 1 0) c.in-Ok.ensures.made held)
