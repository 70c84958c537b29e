use Rattle.std.proofs.Common.{subst}
use Rattle.ps_port.specs.ps_outside.Outside.{Rose}
use Rattle.ps_causes.specs.Source.{IsProgram}
use Rattle.ps_causes.specs.Steps.{RefusalWhy}
use Rattle.ps_causes.specs.ps_reports.Reporting.{line_of, status_of}
use Rattle.ps_causes.specs.ps_reports.Statuses.{number_of}
use Rattle.ps_causes.specs.ps_args.Reading.{run_in}
use Rattle.ps_command.proofs.Causes.{exits, unready_by_text, unready_by_fault, unready_by_input, input_unread_on, rose_from}
use Rattle.ps_command.proofs.prepare.prepare.Goals as goal

pub returns-in_err-text-clause-unready : goal.returns-in_err-text-clause-unready
returns-in_err-text-clause-unready g c =
    let s = g.S.Shelf in
    let old = c.args.shelf.now in
    exits c.from_residual.result _ c.in_err-text.field-0.0 c.from_residual.ensures.1
    (unready_by_text (run_in c.args.run.now) (s.holds old) (s.lacks old) (s.may_fail old) (Rose (s.faults old) (s.faults c.read.new.shelf)) _ _ c.in_err-text.ensures.unread)

pub returns-in_err-unit-clause-unready : goal.returns-in_err-unit-clause-unready
returns-in_err-unit-clause-unready g c =
    let s = g.S.Shelf in
    let run = run_in c.args.run.now in
    let old = c.args.shelf.now in
    let report = c.in_err-unit.field-0.0 in
    let refused = subst (λ text. RefusalWhy run.file text (line_of report) (number_of (status_of report))) c.deref.ensures.value c.in_err-unit.ensures.refused in
    exits c.from_residual-in_err-unit.result _ report c.from_residual-in_err-unit.ensures.1
    (unready_by_fault run (s.holds old) (s.lacks old) (s.may_fail old) (Rose (s.faults old) (s.faults c.read.new.shelf)) c.in_ok-text.text.items _ _ c.in_ok-text.ensures.given refused)

pub returns-in_err-input-clause-unready : goal.returns-in_err-input-clause-unready
returns-in_err-input-clause-unready g c =
    let s = g.S.Shelf in
    let run = run_in c.args.run.now in
    let old = c.args.shelf.now in
    let mid = c.read.new.shelf in
    let new = c.read_input.new.shelf in
    let report = c.in_err-input.field-0.0 in
    let runnable = c.in_ok-unit.ensures.runnable in
    let program = runnable.0 in
    let is = subst (λ text. IsProgram text program) c.deref.ensures.value runnable.2 in
    let unread = input_unread_on (s.holds mid) (s.holds old) (s.lacks mid) (s.lacks old) (s.may_fail mid) (s.may_fail old) c.read.ensures.holds_on c.read.ensures.lacks_on c.read.ensures.may_fail_on
    (Rose (s.faults mid) (s.faults new)) (Rose (s.faults old) (s.faults new)) (rose_from (s.faults old) (s.faults mid) (s.faults new) c.read.ensures.counts)
    run.input _ _ c.in_err-input.ensures.unread in
    exits c.from_residual-in_err-input.result _ report c.from_residual-in_err-input.ensures.1
    (unready_by_input run (s.holds old) (s.lacks old) (s.may_fail old) (Rose (s.faults old) (s.faults new)) program _ _
    (record { text = c.in_ok-text.text.items; gives = c.in_ok-text.ensures.given; is = is }) unread)
