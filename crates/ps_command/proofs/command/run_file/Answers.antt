use Rattle.ps_port.specs.ps_outside.Outside.{Rose}
use Rattle.ps_causes.specs.ps_args.Reading.{run_in}
use Rattle.ps_command.proofs.Causes.{ends_run, ends_unready}
use Rattle.ps_command.proofs.command.run_file.Goals as goal

pub returns-in-Ok-clause-why : goal.returns-in-Ok-clause-why
returns-in-Ok-clause-why g c =
    let shelf = c.args.shelf.now in
    let is = c.in-Ok.ensures.prepared in
    ends_run (g.S.Shelf.holds shelf) (g.S.Shelf.lacks shelf) (g.S.Shelf.may_fail shelf) (Rose (g.S.Shelf.faults shelf) (g.S.Shelf.faults c.prepare.new.shelf))
    g.H.Host.outside c.args.host c.execute.result.1 (run_in c.args.run.now) c.in-Ok.prepared.input.items is.program c.execute.result.0 is.gives is.given
    (c.execute.ensures.why is.program is.runnable)

pub returns-in-Err-clause-why : goal.returns-in-Err-clause-why
returns-in-Err-clause-why g c =
    let shelf = c.args.shelf.now in
    ends_unready (g.S.Shelf.holds shelf) (g.S.Shelf.lacks shelf) (g.S.Shelf.may_fail shelf) (Rose (g.S.Shelf.faults shelf) (g.S.Shelf.faults c.prepare.new.shelf))
    (g.H.Host.outside c.args.host) (run_in c.args.run.now) c.in-Err.report c.in-Err.ensures.unready
