use Rattle.std.proofs.Common.{Some}
use Rattle.joint_ops.specs.swizzle.Text.{text_at}
use Rattle.joint_ops.proofs.GainLaws.{gains-none}
use Rattle.db_dir.proofs.EntryLaws.{some-none}
use Rattle.db_dir.proofs.DirLaws.{directory-at, directory-none}
use Rattle.db_dir.proofs.ShapeLaws.{shaped-held}
use Rattle.db_dir.proofs.AnswerLaws.{opens-admit, none-refuses}
use Rattle.db_dir.proofs.AdmitLaws.{opens-root}
use Rattle.db_dir.proofs.admit.admit.Goals as goal

pub returns-in_default-clause-admitted : goal.returns-in_default-clause-admitted
returns-in_default-clause-admitted g c = λ databases row is. (
  none-refuses databases _ _ _ (directory-none c.args.sw.now _ _ c.args.directory databases c.in_default.is is),
  gains-none c.args.sw.now (g.V.Vault.outside c.args.vault.now) c.sound.ensures,
)

pub returns-in_default-clause-reads : goal.returns-in_default-clause-reads
returns-in_default-clause-reads g c = some-none c.args.sw.now (g.V.Vault.outside c.args.vault.now)

pub returns-clause-admitted : goal.returns-clause-admitted
returns-clause-admitted g c = λ databases row is.
    opens-admit c.args.sw.now c.admit_in-admitted.new.sw (g.V.Vault.outside c.args.vault.now) (g.V.Vault.outside c.admit_in-admitted.new.vault) row c.in-Some.at databases
    _ _ _ c.sound.ensures c.sound-2.ensures (shaped-held c.args.sw.now c.args.directory c.requires.directory c.in-Some.at c.in-Some.is)
    (directory-at c.args.sw.now _ _ c.args.directory c.in-Some.at databases c.in-Some.is is) c.admit_in-admitted.result c.admit_in-admitted.ensures.fails
    c.admit_in-admitted.ensures.reads c.admit_in-admitted.ensures.gains c.admit_in-admitted.ensures.opens

pub returns-clause-root : goal.returns-clause-root
returns-clause-root g c =
    opens-root c.args.sw.now c.admit_in-admitted.new.sw (g.V.Vault.outside c.args.vault.now) (g.V.Vault.outside c.admit_in-admitted.new.vault) (text_at c.args.sw.now c.args.name)
    (text_at c.args.sw.now c.args.password) (text_at c.args.sw.now c.args.mode) (Some c.in-Some.at) c.admit_in-admitted.result c.admit_in-admitted.ensures.opens
