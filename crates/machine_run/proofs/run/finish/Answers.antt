use Rattle.std.proofs.Common.{refl, ap}
use Rattle.machine_core.specs.swizzle.declared.fault.SwizzleFault.TheVariants.{Vault}
use Rattle.machine_run.proofs.Telling.{but-sends, fails-sends, leaves-sends}
use Rattle.machine_run.proofs.run.finish.Goals as goal

pub returns-in-Ok-clause-reports : goal.returns-in-Ok-clause-reports
returns-in-Ok-clause-reports g c =
    let outside = g.V.Vault.outside in
    (refl, but-sends (outside c.args.vault.now) (outside c.report.new.vault) _ c.report.new.output _ c.in-Ok.ensures.sends)

pub returns-in-Err-clause-reports : goal.returns-in-Err-clause-reports
returns-in-Err-clause-reports g c =
    let outside = g.V.Vault.outside in (
      ap Vault c.in-Err.ensures.fault,
      fails-sends (outside c.args.vault.now) (outside c.report.new.vault) _ c.report.new.output c.in-Err.fault c.in-Err.ensures.fault c.in-Err.ensures.sends,
      c.in-Err.ensures.sends.lets_go,
    )

pub returns-in-Ok-clause-leaves : goal.returns-in-Ok-clause-leaves
returns-in-Ok-clause-leaves g c =
    let outside = g.V.Vault.outside in
    leaves-sends (outside c.args.vault.now) (outside c.report.new.vault) _ c.report.new.output _ c.in-Ok.ensures.sends

pub returns-in-Err-clause-leaves : goal.returns-in-Err-clause-leaves
returns-in-Err-clause-leaves g c =
    let outside = g.V.Vault.outside in
    leaves-sends (outside c.args.vault.now) (outside c.report.new.vault) _ c.report.new.output _ c.in-Err.ensures.sends
