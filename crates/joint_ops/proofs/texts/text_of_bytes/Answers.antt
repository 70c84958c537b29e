use Rattle.joint_ops.proofs.TextLaws.{string-good, gives-text, text-breaks, text-held, text-keeps}
use Rattle.joint_ops.proofs.texts.text_of_bytes.Goals as goal

pub returns-clause-made : goal.returns-clause-made
returns-clause-made g c vault of names world =
    gives-text (g.V.Vault.outside vault) c.args.sw.now c.text_of_bytes-made.new.sw of names _ c.text_of_bytes-made.result c.sound.ensures c.sound-2.ensures
    (string-good c.args.bytes.now c.are_bytes.ensures) world c.text_of_bytes-made.ensures

pub returns-clause-fails : goal.returns-clause-fails
returns-clause-fails g c = text-breaks c.args.sw.now c.text_of_bytes-made.new.sw _ c.text_of_bytes-made.result c.text_of_bytes-made.ensures

pub returns-clause-held : goal.returns-clause-held
returns-clause-held g c = text-held c.args.sw.now c.text_of_bytes-made.new.sw _ c.text_of_bytes-made.result c.text_of_bytes-made.ensures

pub returns-clause-keeps : goal.returns-clause-keeps
returns-clause-keeps g c = text-keeps c.args.sw.now c.text_of_bytes-made.new.sw _ c.text_of_bytes-made.result c.sound.ensures c.text_of_bytes-made.ensures
