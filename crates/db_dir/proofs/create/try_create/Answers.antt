use Rattle.std.proofs.Common.{ℕ, Option, Ok, subst}
use Rattle.joint_ops.specs.swizzle.Text.{text_at}
use Rattle.db_dir.specs.Found.{Finds}
use Rattle.db_dir.proofs.ShapeLaws.{shaped-held}
use Rattle.db_dir.proofs.MadeLaws.{adds-gains, adds-tries}
use Rattle.db_dir.proofs.create.try_create.Goals as goal

pub returns-in-None-clause-tries : goal.returns-in-None-clause-tries
returns-in-None-clause-tries g c =
    adds-tries c.args.sw.now c.find.new.sw c.add-added.new.sw (g.V.Vault.outside c.args.vault.now) (g.V.Vault.outside c.find.new.vault) c.args.directory c.args.name
    c.args.password c.args.root c.add-added.result c.sound-2.ensures c.in_ok-found.ensures.reads c.in_default.ensures
    (subst (λ (found : Option ℕ). Finds c.args.sw.now c.find.new.sw (g.V.Vault.outside c.args.vault.now) (g.V.Vault.outside c.find.new.vault) c.args.directory
    (text_at c.args.sw.now c.args.name) (Ok found)) c.in-None.is c.in_ok-found.ensures.finds) c.add-added.ensures

pub returns-in-None-clause-gains : goal.returns-in-None-clause-gains
returns-in-None-clause-gains g c =
    let keeps = c.in_ok-found.ensures.reads.reads.keeps in
    adds-gains c.args.sw.now c.find.new.sw c.add-added.new.sw (g.V.Vault.outside c.args.vault.now) (g.V.Vault.outside c.find.new.vault) c.args.directory c.args.name
    c.args.password c.args.root c.add-added.result c.sound-2.ensures c.sound-in-None.ensures
    (λ at is. (keeps.objects at (shaped-held c.args.sw.now c.args.directory c.requires.directory at is)).held)
    (keeps.objects c.args.name c.requires.name).held (keeps.objects c.args.password c.requires.password).held (keeps.objects c.args.root c.requires.root).held
    c.add-added.ensures c.in_ok-found.ensures.gains
