use Rattle.std.proofs.Common.{sym, subst, [], arith}
use Rattle.ps_base.specs.CodeUnit.{UnitView, unit, no_constants, unit_view}
use Rattle.machine_core.specs.ps_stepping.Config.{frame_in}
use Rattle.machine_run.specs.Loaded.{IsFrame, LoadsUnit, no_locals, itself, damaged}
use Rattle.machine_run.proofs.load.load.Goals as goal

-- a frame without locals fits
pub load_fitting-requires-2-clause-frame : goal.load_fitting-requires-2-clause-frame
load_fitting-requires-2-clause-frame g c =
    subst (λ (u : UnitView). IsFrame (frame_in u)) (sym c.no_code-damaged.ensures) (record { nums_fit = omega arith; refs_fit = omega arith })

pub returns-then-fits : goal.returns-then-fits
returns-then-fits g c = record { run = unit_view c.args.unit.now; chosen = itself (c.fits.ensures.fits c.if-fits.true); loads = c.load_fitting.ensures }

pub returns : goal.returns
returns g c = record {
  run = unit [] no_constants no_locals;
  chosen = damaged (c.fits.ensures.is_too_large c.if-fits.false);
  loads = subst (λ (u : UnitView). LoadsUnit (g.V.Vault.outside c.args.vault.now) u c.args.turns c.args.input.items c.args.m.now c.load_fitting-2.new.m c.load_fitting-2.result)
      c.no_code-damaged.ensures c.load_fitting-2.ensures;
}
