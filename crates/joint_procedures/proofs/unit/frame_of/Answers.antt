use Rattle.std.proofs.Common.{ℕ, subst}
use Rattle.joint_procedures.specs.Units.{IsFrameIn}
use Rattle.joint_procedures.proofs.FrameLaws.{frame-there, frame-read}
use Rattle.joint_procedures.proofs.unit.frame_of.Goals as goal

pub num-requires-clause-below : goal.num-requires-clause-below
num-requires-clause-below g c = frame-there c.args.sw.now c.args.code c.sound.ensures c.requires.held c.requires.kind

pub returns-clause-word : goal.returns-clause-word
returns-clause-word g c = subst (λ (w : ℕ). IsFrameIn w c.frame_in.result) c.num.ensures c.frame_in.ensures

pub returns-clause-value : goal.returns-clause-value
returns-clause-value g c vault bytes row frame is fit =
    frame-read c.args.sw.now (g.V.Vault.outside vault) c.args.code c.frame_in.result bytes row frame c.sound.ensures
    (subst (λ (w : ℕ). IsFrameIn w c.frame_in.result) c.num.ensures c.frame_in.ensures) is fit
