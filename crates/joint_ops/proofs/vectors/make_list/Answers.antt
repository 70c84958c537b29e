use Rattle.std.proofs.Common.{w32}
use Rattle.std.proofs.lemmas.Int.{to_z-of_z}
use Rattle.joint_ops.proofs.MadeLaws.{fits-int, makes-list_at, vector-breaks, vector-held, vector-keeps}
use Rattle.joint_ops.proofs.vectors.make_list.Goals as goal

pub returns-clause-made : goal.returns-clause-made
returns-clause-made g c of names text elements world d are =
    makes-list_at (g.V.Vault.outside c.args._vault.now) c.args.sw.now c.make_list-made.new.sw of names c.args.ty c.args.low _ c.args.items.now text elements
    c.make_list-made.result (to_z-of_z w32 c.args.low c.ranges.low) c.sound.ensures c.sound-2.ensures c.requires.text c.requires.near
    (fits-int c.args.low c.ranges.low) c.make_list-made.ensures.made world d are

pub returns-clause-fails : goal.returns-clause-fails
returns-clause-fails g c =
    vector-breaks c.args.sw.now c.make_list-made.new.sw c.args.ty _ c.args.items.now _ c.make_list-made.result c.make_list-made.ensures.made

pub returns-clause-held : goal.returns-clause-held
returns-clause-held g c =
    vector-held c.args.sw.now c.make_list-made.new.sw c.args.ty _ c.args.items.now _ c.make_list-made.result c.make_list-made.ensures.made

pub returns-clause-keeps : goal.returns-clause-keeps
returns-clause-keeps g c =
    vector-keeps c.args.sw.now c.make_list-made.new.sw c.args.ty _ c.args.items.now _ c.make_list-made.result c.sound.ensures c.make_list-made.ensures.made
