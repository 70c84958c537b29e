use Rattle.std.proofs.Common.{w32}
use Rattle.std.proofs.lemmas.Int.{to_z-of_z}
use Rattle.joint_ops.proofs.MadeLaws.{fits-int, makes-filled_at, vector-breaks, vector-held, vector-keeps}
use Rattle.joint_ops.proofs.vectors.make_vector.Goals as goal

pub returns-clause-made : goal.returns-clause-made
returns-clause-made g c of names text v world d form is =
    makes-filled_at (g.V.Vault.outside c.args._vault.now) c.args.sw.now c.make_vector-made.new.sw of names c.args.ty c.args.low c.args.high _ _ c.args.fill
    text v c.make_vector-made.result (to_z-of_z w32 c.args.low c.ranges.low) (to_z-of_z w32 c.args.high c.ranges.high) c.sound.ensures c.sound-2.ensures
    c.requires.text c.requires.near (fits-int c.args.low c.ranges.low) c.make_vector-made.ensures.made world d form is

pub returns-clause-fails : goal.returns-clause-fails
returns-clause-fails g c =
    vector-breaks c.args.sw.now c.make_vector-made.new.sw c.args.ty _ _ _ c.make_vector-made.result c.make_vector-made.ensures.made

pub returns-clause-held : goal.returns-clause-held
returns-clause-held g c =
    vector-held c.args.sw.now c.make_vector-made.new.sw c.args.ty _ _ _ c.make_vector-made.result c.make_vector-made.ensures.made

pub returns-clause-keeps : goal.returns-clause-keeps
returns-clause-keeps g c =
    vector-keeps c.args.sw.now c.make_vector-made.new.sw c.args.ty _ _ _ c.make_vector-made.result c.sound.ensures c.make_vector-made.ensures.made
