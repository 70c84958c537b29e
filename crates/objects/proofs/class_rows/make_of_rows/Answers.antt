use Rattle.std.proofs.Common.{None, arith}
use Rattle.std.specs.Prelude.{Ok, Err}
use Rattle.joint_ops.specs.obj_layout.declared.kind.Kind.TheVariants.{Structure}
use Rattle.joint_ops.specs.heap_places.Filling.{filled}
use Rattle.joint_ops.proofs.of_swizzle.MadeLaws.{made-held}
use Rattle.joint_ops.proofs.MadeLaws.{structure-breaks, fills-keeps}
use Rattle.objects.proofs.RowMakes.{rows-made, rows-full}
use Rattle.objects.proofs.class_rows.make_of_rows.Goals as goal

pub make_rows-made-requires-clause-few : goal.make_rows-made-requires-clause-few
make_rows-made-requires-clause-few g c =
    let few = c.requires.class.tells.few in
    omega (arith, few.nums, few.refs, c.requires.nums, c.requires.refs)

pub returns-in-Ok-clause-made : goal.returns-in-Ok-clause-made
returns-in-Ok-clause-made g c vault of names values world are =
    rows-made c.args.sw.now c.make_rows-made.new.sw (g.V.Vault.outside vault) of names c.args.class c.args.nums.now c.args.refs.now values c.requires.class
    c.requires.nums c.requires.refs are c.in-Ok.at c.sound.ensures c.sound-2.ensures c.requires.near c.in-Ok.ensures.ints c.in-Ok.ensures.filled world

pub returns-in-Err-clause-made : goal.returns-in-Err-clause-made
returns-in-Err-clause-made g c vault of names values world are =
    rows-full c.args.sw.now c.make_rows-made.new.sw (g.V.Vault.outside vault) of names c.args.class c.args.nums.now c.args.refs.now values c.requires.class
    c.requires.nums c.requires.refs are c.in-Err.fault c.in-Err.ensures.filled

pub returns-in-Ok-clause-held : goal.returns-in-Ok-clause-held
returns-in-Ok-clause-held g c = made-held c.args.sw.now c.make_rows-made.new.sw c.in-Ok.at (filled Structure c.args.class.text None _) c.in-Ok.ensures.filled

pub returns-in-Ok-clause-keeps : goal.returns-in-Ok-clause-keeps
returns-in-Ok-clause-keeps g c =
    fills-keeps c.args.sw.now c.make_rows-made.new.sw Structure c.args.class.text None _ (Ok c.in-Ok.at) c.sound.ensures c.in-Ok.ensures.filled

pub returns-in-Err-clause-keeps : goal.returns-in-Err-clause-keeps
returns-in-Err-clause-keeps g c =
    fills-keeps c.args.sw.now c.make_rows-made.new.sw Structure c.args.class.text None _ (Err c.in-Err.fault) c.sound.ensures c.in-Err.ensures.filled

pub returns-in-Err-clause-fails : goal.returns-in-Err-clause-fails
returns-in-Err-clause-fails g c = structure-breaks c.args.sw.now c.make_rows-made.new.sw c.args.class.text _ c.in-Err.fault c.in-Err.ensures.filled
