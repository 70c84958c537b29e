use Rattle.std.proofs.Common.{sym, ◌∙◌}
use Rattle.objects.proofs.NamedLaws.{class-got, class-failed}
use Rattle.objects.proofs.classes.class_at.Goals as goal

pub returns-in-Err-clause-given : goal.returns-in-Err-clause-given
returns-in-Err-clause-given g c bytes row frame is =
    class-failed c.args.sw.now c.constant.new.sw (g.V.Vault.outside c.args.vault.now) (g.V.Vault.outside c.constant.new.vault) c.args.code c.args.constant row
    c.in-Err.fault (c.in-Err.ensures.given bytes row frame is)

pub no_class-requires : goal.no_class-requires
no_class-requires g c = (c.in-Ok.ensures.keeps.objects c.args.code c.requires.held).held

pub returns-in-Text-clause-given : goal.returns-in-Text-clause-given
returns-in-Text-clause-given g c bytes row frame is =
    class-got c.args.sw.now c.constant.new.sw (g.V.Vault.outside c.args.vault.now) (g.V.Vault.outside c.constant.new.vault) c.args.code c.args.constant row
    c.sound.ensures c.in-Ok.at (sym c.kind.ensures ∙ c.in-Text.is) (c.in-Ok.ensures.given bytes row frame is)
