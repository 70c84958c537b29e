use Rattle.std.proofs.Common.{sym, ◌∙◌}
use Rattle.joint_procedures.proofs.FrameLaws.{literal-found, literal-other}
use Rattle.joint_procedures.proofs.unit.literal_of.Goals as goal

pub returns-in-Code-clause-given : goal.returns-in-Code-clause-given
returns-in-Code-clause-given g c bytes row frame is fit =
    literal-found c.args.sw.now c.constant.new.sw (g.V.Vault.outside c.args.vault.now) (g.V.Vault.outside c.constant.new.vault) c.args.code c.args.index
    c.in-Ok.at c.sound.ensures bytes row frame (sym c.kind.ensures ∙ c.in-Code.is) (c.in-Ok.ensures.given bytes row frame is) fit

pub returns-in_default : goal.returns-in_default
returns-in_default g c = record {
  given = λ bytes row frame is fit. literal-other c.args.sw.now c.constant.new.sw (g.V.Vault.outside c.args.vault.now) (g.V.Vault.outside c.constant.new.vault)
      c.args.code c.args.index c.in-Ok.at c.sound.ensures row (λ kinds. c.in_default.not-Code (c.kind.ensures ∙ kinds))
      (c.in-Ok.ensures.given bytes row frame is);
  world = c.in-Ok.ensures.world;
  keeps = c.in-Ok.ensures.keeps;
  held = tt;
  code = tt;
  fails = tt;
  leaves = c.in-Ok.ensures.leaves;
  numbers = c.in-Ok.ensures.numbers;
  alive = c.in-Ok.ensures.alive;
}
