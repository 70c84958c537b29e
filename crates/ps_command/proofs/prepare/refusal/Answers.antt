use Rattle.std.proofs.Common.{◌∙◌, sym, subst}
use Rattle.ps_causes.specs.Steps.{RefusalWhy}
use Rattle.ps_causes.specs.Steps as steps
use Rattle.ps_causes.specs.ps_reports.Reporting.{name_of}
use Rattle.ps_causes.specs.ps_reports.Reports.{fault_line}
use Rattle.ps_command.proofs.Causes.{fault_told}
use Rattle.ps_command.proofs.prepare.refusal.Goals as goal

pub returns-in-Some-Some : goal.returns-in-Some-Some
returns-in-Some-Some c text h =
    let found = c.in-Some-Some in
    subst (λ stage. RefusalWhy c.args.file.now text (fault_line c.args.file.now (name_of stage) found.number found.line) 2) (sym c.stage.ensures)
    (fault_told c.args.file.now text c.args.fault.now found.number found.line (sym c.number.ensures ∙ found.is-0) (sym c.line.ensures ∙ found.is-1) h)

pub returns-in_default : goal.returns-in_default
returns-in_default c text h = steps.no_memory
