use Rattle.std.proofs.Common.{w32}
use Rattle.std.proofs.lemmas.Int.{to_z-of_z}
use Rattle.joint_ops.proofs.SeenLaws.{text-denoted}
use Rattle.joint_ops.proofs.TextLaws.{parts, text-breaks, text-held, text-keeps}
use Rattle.joint_ops.proofs.texts.part.Goals as goal

pub returns-clause-made : goal.returns-clause-made
returns-clause-made g c of names v world d =
    let outside = g.V.Vault.outside c.args._vault.now in
    parts outside c.args.sw.now c.part-cut.new.sw of names c.args.text c.args.from c.args.count _ _ v c.part-cut.result c.sound.ensures c.sound-2.ensures world
    (text-denoted c.args.sw.now outside names c.args.text v c.sound.ensures d).bytes_are (to_z-of_z w32 c.args.from c.ranges.from)
    (to_z-of_z w32 c.args.count c.ranges.count) c.part-cut.ensures

pub returns-clause-fails : goal.returns-clause-fails
returns-clause-fails g c = text-breaks c.args.sw.now c.part-cut.new.sw _ c.part-cut.result c.part-cut.ensures

pub returns-clause-held : goal.returns-clause-held
returns-clause-held g c = text-held c.args.sw.now c.part-cut.new.sw _ c.part-cut.result c.part-cut.ensures

pub returns-clause-keeps : goal.returns-clause-keeps
returns-clause-keeps g c = text-keeps c.args.sw.now c.part-cut.new.sw _ c.part-cut.result c.sound.ensures c.part-cut.ensures
