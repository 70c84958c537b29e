use Rattle.std.proofs.Common.{w32, arith}
use Rattle.std.specs.Prelude.{Ok, Err}
use Rattle.std.proofs.lemmas.Int.{to_z-of_z}
use Rattle.joint_ops.proofs.TextLaws.{int-made, int-full, int-breaks, int-held, int-keeps}
use Rattle.joint_ops.proofs.texts.int_text.Goals as goal

pub returns-in-Ok-clause-made : goal.returns-in-Ok-clause-made
returns-in-Ok-clause-made g c of names world =
    int-made (g.V.Vault.outside c.args._vault.now) c.args.sw.now c.int_text.new.sw of names c.args.value _ c.in-Ok.at c.sound.ensures c.sound-in-Ok.ensures
    (omega (arith, c.ranges.value.sfits)) (to_z-of_z w32 c.args.value c.ranges.value) world c.in-Ok.ensures

pub returns-in-Err-clause-made : goal.returns-in-Err-clause-made
returns-in-Err-clause-made g c of names world =
    int-full (g.V.Vault.outside c.args._vault.now) c.args.sw.now c.int_text.new.sw of names c.args.value _ c.in-Err.fault
    (to_z-of_z w32 c.args.value c.ranges.value) c.in-Err.ensures

pub returns-in-Err-clause-fails : goal.returns-in-Err-clause-fails
returns-in-Err-clause-fails g c = int-breaks c.args.sw.now c.int_text.new.sw _ c.in-Err.fault c.in-Err.ensures

pub returns-in-Ok-clause-held : goal.returns-in-Ok-clause-held
returns-in-Ok-clause-held g c = int-held c.args.sw.now c.int_text.new.sw _ c.in-Ok.at c.in-Ok.ensures

pub returns-in-Ok-clause-keeps : goal.returns-in-Ok-clause-keeps
returns-in-Ok-clause-keeps g c = int-keeps c.args.sw.now c.int_text.new.sw _ (Ok c.in-Ok.at) c.sound.ensures c.in-Ok.ensures

pub returns-in-Err-clause-keeps : goal.returns-in-Err-clause-keeps
returns-in-Err-clause-keeps g c = int-keeps c.args.sw.now c.int_text.new.sw _ (Err c.in-Err.fault) c.sound.ensures c.in-Err.ensures
