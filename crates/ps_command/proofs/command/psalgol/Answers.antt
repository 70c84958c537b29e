use Rattle.std.proofs.Common.{◌≡◌, Some, ap, sym, subst}
use Rattle.std.specs.Prelude.{Err}
use Rattle.ps_port.specs.ps_outside.Outside.{Rose}
use Rattle.ps_causes.specs.Command.{Why, carried_out, done_of}
use Rattle.ps_causes.specs.ps_reports.declared.report.Report.{Report}
use Rattle.ps_causes.specs.ps_reports.Answering.{Tells}
use Rattle.ps_causes.specs.ps_args.Reading.{ReadsAs, command_in}
use Rattle.ps_causes.proofs.Reporting.{why_told}
use Rattle.ps_command.proofs.Causes.{ends_refused}
use Rattle.ps_command.specs.inside.Words.{report_of}
use Rattle.ps_command.proofs.command.psalgol.Goals as goal

pub returns-in-Ok-clause-why : goal.returns-in-Ok-clause-why
returns-in-Ok-clause-why g c asked reads =
    let o = g.H.Host.outside in
    let s = g.S.Shelf in
    let shelf = c.args.shelf.now in
    let rose = Rose (s.faults shelf) (s.faults c.perform-host.new.shelf) in
    let is : asked ≡ Some (command_in c.in-Ok.command) = subst (λ r. ReadsAs command_in asked r) c.in-Ok.is reads in
    subst (λ a. Why (o c.args.host) (o c.told.result.1) a (s.holds shelf) (s.lacks shelf) (s.may_fail shelf) rose c.told.result.0) (sym (ap carried_out is))
    (why_told o c.args.host c.perform-host.result.1 c.told.result.1 (done_of (command_in c.in-Ok.command)) (s.holds shelf) (s.lacks shelf) (s.may_fail shelf) rose c.perform-host.result.0 c.told.result.0
    c.perform-host.ensures.why c.told.ensures)

pub returns-in-Err-clause-why : goal.returns-in-Err-clause-why
returns-in-Err-clause-why g c asked reads =
    let o = g.H.Host.outside in
    let s = g.S.Shelf in
    let shelf = c.args.shelf.now in
    let rose = Rose (s.faults shelf) (s.faults shelf) in
    let told = c.told-in-Err in
    let report = report_of c.in-Err.fault in
    let read = subst (λ r. ReadsAs command_in asked r) c.in-Err.is reads in
    let tells = subst (λ (r : Report). Tells o c.args.host told.result.1 (Err r) told.result.0) c.refusal.ensures told.ensures in
    why_told o c.args.host c.args.host told.result.1 (carried_out asked) (s.holds shelf) (s.lacks shelf) (s.may_fail shelf) rose (Err report) told.result.0
    (ends_refused (s.holds shelf) (s.lacks shelf) (s.may_fail shelf) rose c.in-Err.fault asked (o c.args.host) read) tells
