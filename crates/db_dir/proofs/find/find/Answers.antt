use Rattle.joint_ops.proofs.GainLaws.{gains-none}
use Rattle.db_dir.proofs.GainLaws.{by-none}
use Rattle.db_dir.proofs.EntryLaws.{some-none}
use Rattle.db_dir.proofs.DirLaws.{directory-at, directory-none, finds-answers, none-named}
use Rattle.db_dir.proofs.ShapeLaws.{shaped-held}
use Rattle.db_dir.proofs.find.find.Goals as goal

pub returns-in_default-clause-found : goal.returns-in_default-clause-found
returns-in_default-clause-found g c = λ databases row is. (
  none-named databases _ (directory-none c.args.sw.now _ _ c.args.directory databases c.in_default.is is),
  gains-none c.args.sw.now (g.V.Vault.outside c.args.vault.now) c.sound.ensures,
)

pub returns-in_default-clause-reads : goal.returns-in_default-clause-reads
returns-in_default-clause-reads g c = some-none c.args.sw.now (g.V.Vault.outside c.args.vault.now)

pub returns-clause-found : goal.returns-clause-found
returns-clause-found g c = λ databases row is.
    finds-answers c.args.sw.now c.find_in-found.new.sw (g.V.Vault.outside c.args.vault.now) (g.V.Vault.outside c.find_in-found.new.vault) row c.in-Some.at databases _
    c.find_in-found.result c.sound.ensures c.sound-2.ensures (shaped-held c.args.sw.now c.args.directory c.requires.directory c.in-Some.at c.in-Some.is)
    c.find_in-found.ensures.reads c.find_in-found.ensures.gains c.find_in-found.ensures.fails (directory-at c.args.sw.now _ _ c.args.directory c.in-Some.at databases c.in-Some.is is)
    c.find_in-found.ensures.finds

pub returns-in_default-clause-gains : goal.returns-in_default-clause-gains
returns-in_default-clause-gains g c = by-none c.args.sw.now (g.V.Vault.outside c.args.vault.now) _ c.sound.ensures
