use Rattle.joint_ops.proofs.SeenLaws.{text-denoted}
use Rattle.joint_ops.proofs.TextLaws.{joins, text-breaks, text-held, text-keeps}
use Rattle.joint_ops.proofs.texts.join.Goals as goal

pub returns-clause-made : goal.returns-clause-made
returns-clause-made g c of names v w world da db =
    let outside = g.V.Vault.outside c.args._vault.now in
    joins outside c.args.sw.now c.join-joined.new.sw of names c.args.a c.args.b v w c.join-joined.result c.sound.ensures c.sound-2.ensures world
    (text-denoted c.args.sw.now outside names c.args.a v c.sound.ensures da).bytes_are
    (text-denoted c.args.sw.now outside names c.args.b w c.sound.ensures db).bytes_are c.join-joined.ensures

pub returns-clause-fails : goal.returns-clause-fails
returns-clause-fails g c = text-breaks c.args.sw.now c.join-joined.new.sw _ c.join-joined.result c.join-joined.ensures

pub returns-clause-held : goal.returns-clause-held
returns-clause-held g c = text-held c.args.sw.now c.join-joined.new.sw _ c.join-joined.result c.join-joined.ensures

pub returns-clause-keeps : goal.returns-clause-keeps
returns-clause-keeps g c = text-keeps c.args.sw.now c.join-joined.new.sw _ c.join-joined.result c.sound.ensures c.join-joined.ensures
