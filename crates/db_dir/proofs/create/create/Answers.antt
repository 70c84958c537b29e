use Rattle.db_dir.proofs.ShapeLaws.{shaped-held}
use Rattle.db_dir.proofs.MadeLaws.{tries-creates, tries-shaped, tries-keeps, tries-leaves}
use Rattle.db_dir.proofs.create.create.Goals as goal

pub returns-clause-created : goal.returns-clause-created
returns-clause-created g c = λ databases row is.
    tries-creates c.args.sw.now c.try_create-created.new.sw (g.V.Vault.outside c.args.vault.now) (g.V.Vault.outside c.try_create-created.new.vault) row c.args.directory databases c.args.name
    c.args.password c.args.root c.sound.ensures (shaped-held c.args.sw.now c.args.directory c.requires.directory) c.requires.name c.requires.name_text c.requires.password
    c.requires.password_text c.requires.root c.requires.root_table is c.try_create-created.result c.sound-2.ensures c.try_create-created.ensures.fails c.try_create-created.ensures.gains c.try_create-created.ensures.tries

pub returns-clause-shaped : goal.returns-clause-shaped
returns-clause-shaped g c =
    tries-shaped c.args.sw.now c.try_create-created.new.sw (g.V.Vault.outside c.args.vault.now) (g.V.Vault.outside c.try_create-created.new.vault) c.args.directory c.args.name c.args.password
    c.args.root (shaped-held c.args.sw.now c.args.directory c.requires.directory) c.requires.name c.requires.password c.requires.root c.try_create-created.result c.try_create-created.ensures.tries

pub returns-clause-keeps : goal.returns-clause-keeps
returns-clause-keeps g c =
    tries-keeps c.args.sw.now c.try_create-created.new.sw (g.V.Vault.outside c.args.vault.now) (g.V.Vault.outside c.try_create-created.new.vault) c.args.directory c.args.name c.args.password
    c.args.root (shaped-held c.args.sw.now c.args.directory c.requires.directory) c.requires.name c.requires.password c.requires.root c.try_create-created.result c.try_create-created.ensures.tries

pub returns-clause-leaves : goal.returns-clause-leaves
returns-clause-leaves g c =
    tries-leaves c.args.sw.now c.try_create-created.new.sw (g.V.Vault.outside c.args.vault.now) (g.V.Vault.outside c.try_create-created.new.vault) c.args.directory c.args.name c.args.password
    c.args.root (shaped-held c.args.sw.now c.args.directory c.requires.directory) c.requires.name c.requires.password c.requires.root c.try_create-created.result c.try_create-created.ensures.tries
    c.try_create-created.ensures.fails
