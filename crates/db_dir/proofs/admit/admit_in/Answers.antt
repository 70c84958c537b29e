use Rattle.joint_ops.specs.swizzle.Text.{text_at}
use Rattle.db_dir.proofs.EntryLaws.{reads-after, fails-after}
use Rattle.db_dir.proofs.GainLaws.{by-after}
use Rattle.db_dir.proofs.AdmitLaws.{found-finds, found-opens}
use Rattle.db_dir.proofs.admit.admit_in.Goals as goal

pub returns-in-Some-clause-opens : goal.returns-in-Some-clause-opens
returns-in-Some-clause-opens g c =
    let old = c.args.sw.now in
    let mid = c.find.new.sw in
    let a = g.V.Vault.outside c.args.vault.now in
    let b = g.V.Vault.outside c.find.new.vault in
    let e = c.in_ok-found.ensures in
    let name = text_at old c.args.name in
    found-opens old mid c.open_at.new.sw a b (g.V.Vault.outside c.open_at.new.vault) c.args.directory c.sound-2.ensures c.requires.directory.held e.reads name
    c.args.password c.args.mode c.in-Some.number c.open_at.result c.requires.password c.requires.password_text c.requires.mode c.requires.mode_text
    (found-finds old mid a b c.args.directory name _ c.in-Some.number c.in-Some.is e.finds) c.open_at.ensures.reads c.open_at.ensures.opens

pub returns-in-Some-clause-reads : goal.returns-in-Some-clause-reads
returns-in-Some-clause-reads g c =
    reads-after c.args.sw.now c.find.new.sw c.open_at.new.sw (g.V.Vault.outside c.args.vault.now) (g.V.Vault.outside c.find.new.vault)
    (g.V.Vault.outside c.open_at.new.vault) c.open_at.result c.in_ok-found.ensures.reads c.open_at.ensures.reads

pub returns-in-Some-clause-fails : goal.returns-in-Some-clause-fails
returns-in-Some-clause-fails g c =
    fails-after c.args.sw.now c.find.new.sw (g.V.Vault.outside c.args.vault.now) (g.V.Vault.outside c.find.new.vault) (g.V.Vault.outside c.open_at.new.vault)
    c.open_at.result c.in_ok-found.ensures.reads c.open_at.ensures.fails

pub returns-in-Some-clause-gains : goal.returns-in-Some-clause-gains
returns-in-Some-clause-gains g c =
    by-after c.args.sw.now c.find.new.sw c.open_at.new.sw (g.V.Vault.outside c.args.vault.now) (g.V.Vault.outside c.find.new.vault)
    (g.V.Vault.outside c.open_at.new.vault) c.args.directory c.open_at.result c.requires.directory.held c.in_ok-found.ensures.reads c.in_ok-found.ensures.gains c.open_at.ensures.gains
