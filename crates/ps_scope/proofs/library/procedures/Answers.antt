use Rattle.ps_scope.proofs.Rows.{all_rows, three_first}
use Rattle.ps_scope.proofs.library.procedures.Goals as goal

pub returns : goal.returns
returns c =
    all_rows c.loop-routine.made.items c.push-3.new.self.items c.routines-rows.result.now c.loop-routine.routine-index
    (three_first _ _ _ _ c.in_ok-error_record.field-0 c.in_ok-scan.field-0 c.in_ok-scan-2.field-0 c.args.text c.new-made.ensures.items c.in_ok-push.ensures.items c.in_ok-push-2.ensures.items c.in_ok-push-3.ensures.items
    c.in_ok-error_record.ensures c.in_ok-scan.ensures c.in_ok-scan-2.ensures c.requires)
    c.loop-routine.invariant c.routines-rows.ensures c.loop-routine-test.false
