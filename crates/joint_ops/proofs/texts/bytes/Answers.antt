use Rattle.std.proofs.Common.{arith, ◌∙◌}
use Rattle.joint_ops.proofs.SeenLaws.{text-denoted}
use Rattle.joint_ops.proofs.TextLaws.{text-small}
use Rattle.joint_ops.proofs.texts.bytes.Goals as goal

pub returns-clause-value : goal.returns-clause-value
returns-clause-value g c vault names v d =
    c.text.ensures.value ∙ (text-denoted c.args.sw.now (g.V.Vault.outside vault) names c.args.text v c.sound.ensures d).bytes_are

pub returns-clause-small : goal.returns-clause-small
returns-clause-small g c = omega (arith, c.text.ensures.len, text-small c.args.sw.now c.args.text c.sound.ensures c.requires.held)
