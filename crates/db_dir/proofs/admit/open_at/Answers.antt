use Rattle.std.proofs.Common.{arith, inl, inr, ◌-◌}
use Rattle.joint_ops.specs.swizzle.Text.{text_at}
use Rattle.db_dir.proofs.EntryLaws.{reads-after, fails-after}
use Rattle.db_dir.proofs.GainLaws.{by-after}
use Rattle.db_dir.proofs.ShapeLaws.{refs-few}
use Rattle.db_dir.proofs.AdmitLaws.{takes-opens}
use Rattle.db_dir.proofs.admit.open_at.Goals as goal

pub overflow_mul-place : goal.overflow_mul-place
overflow_mul-place g c = omega (arith, refs-few c.args.sw.now c.args.directory c.sound.ensures c.requires.held)

pub overflow_add-place : goal.overflow_add-place
overflow_add-place g c = omega (arith, refs-few c.args.sw.now c.args.directory c.sound.ensures c.requires.held)

pub returns-then-same-clause-opens : goal.returns-then-same-clause-opens
returns-then-same-clause-opens g c =
    takes-opens c.args.sw.now c.has_text-same.new.sw c.open_as.new.sw (g.V.Vault.outside c.args.vault.now) (g.V.Vault.outside c.has_text-same.new.vault)
    (g.V.Vault.outside c.open_as.new.vault) c.args.directory c.sound-2.ensures c.requires.held c.in-Ok.ensures.reads (text_at c.args.sw.now c.args.password) c.args.mode
    (c.args.number - 1) c.in-Ok.same c.open_as.result c.requires.mode c.requires.mode_text c.in-Ok.ensures.compared c.if-same.true c.open_as.ensures.reads
    c.open_as.ensures.opens

pub returns-then-same-clause-reads : goal.returns-then-same-clause-reads
returns-then-same-clause-reads g c =
    reads-after c.args.sw.now c.has_text-same.new.sw c.open_as.new.sw (g.V.Vault.outside c.args.vault.now) (g.V.Vault.outside c.has_text-same.new.vault)
    (g.V.Vault.outside c.open_as.new.vault) c.open_as.result c.in-Ok.ensures.reads c.open_as.ensures.reads

pub returns-then-same-clause-fails : goal.returns-then-same-clause-fails
returns-then-same-clause-fails g c =
    fails-after c.args.sw.now c.has_text-same.new.sw (g.V.Vault.outside c.args.vault.now) (g.V.Vault.outside c.has_text-same.new.vault)
    (g.V.Vault.outside c.open_as.new.vault) c.open_as.result c.in-Ok.ensures.reads c.open_as.ensures.fails

pub returns-in-Err-clause-opens : goal.returns-in-Err-clause-opens
returns-in-Err-clause-opens g c = record { place = c.args.number - 1; below = omega arith; why = inr (inl c.in-Err.ensures.compared) }

pub returns-then-same-clause-gains : goal.returns-then-same-clause-gains
returns-then-same-clause-gains g c =
    by-after c.args.sw.now c.has_text-same.new.sw c.open_as.new.sw (g.V.Vault.outside c.args.vault.now) (g.V.Vault.outside c.has_text-same.new.vault)
    (g.V.Vault.outside c.open_as.new.vault) c.args.directory c.open_as.result c.requires.held c.in-Ok.ensures.reads c.in-Ok.ensures.gains c.open_as.ensures.gains
