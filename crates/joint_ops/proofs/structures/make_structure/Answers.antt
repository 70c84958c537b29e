use Rattle.std.proofs.Common.{None}
use Rattle.std.specs.Prelude.{Ok, Err}
use Rattle.heap_meaning.specs.obj_layout.declared.kind.Kind.TheVariants.{Structure}
use Rattle.heap_meaning.specs.heap_places.Filling.{filled}
use Rattle.heap_meaning.proofs.of_swizzle.MadeLaws.{made-held}
use Rattle.joint_ops.proofs.MadeLaws.{makes-structure, no-structure, structure-breaks, fills-keeps}
use Rattle.joint_ops.proofs.structures.make_structure.Goals as goal

pub returns-in-Ok-clause-made : goal.returns-in-Ok-clause-made
returns-in-Ok-clause-made g c of names text values world d are =
    makes-structure (g.V.Vault.outside c.args._vault.now) c.args.sw.now c.make_structure-made.new.sw of names c.args.class c.args.fields.now text values
    c.in-Ok.at c.sound.ensures c.sound-2.ensures c.requires.class c.requires.near c.in-Ok.ensures.filled world d are

pub returns-in-Err-clause-made : goal.returns-in-Err-clause-made
returns-in-Err-clause-made g c of names text values world d are =
    no-structure (g.V.Vault.outside c.args._vault.now) c.args.sw.now c.make_structure-made.new.sw of names c.args.class c.args.fields.now text values
    c.in-Err.fault c.in-Err.ensures.filled are

pub returns-in-Err-clause-fails : goal.returns-in-Err-clause-fails
returns-in-Err-clause-fails g c =
    structure-breaks c.args.sw.now c.make_structure-made.new.sw c.args.class c.args.fields.now c.in-Err.fault c.in-Err.ensures.filled

pub returns-in-Ok-clause-held : goal.returns-in-Ok-clause-held
returns-in-Ok-clause-held g c =
    made-held c.args.sw.now c.make_structure-made.new.sw c.in-Ok.at (filled Structure c.args.class None c.args.fields.now) c.in-Ok.ensures.filled

pub returns-in-Ok-clause-keeps : goal.returns-in-Ok-clause-keeps
returns-in-Ok-clause-keeps g c =
    fills-keeps c.args.sw.now c.make_structure-made.new.sw Structure c.args.class None c.args.fields.now (Ok c.in-Ok.at) c.sound.ensures c.in-Ok.ensures.filled

pub returns-in-Err-clause-keeps : goal.returns-in-Err-clause-keeps
returns-in-Err-clause-keeps g c =
    fills-keeps c.args.sw.now c.make_structure-made.new.sw Structure c.args.class None c.args.fields.now (Err c.in-Err.fault) c.sound.ensures
    c.in-Err.ensures.filled
