use Rattle.std.proofs.Common.{sym, ◌∙◌}
use Rattle.ps_program.specs.NodeView.{param_of}
use Rattle.ps_gen.proofs.Making.{on_ok, kept_number, kept_reference}
use Rattle.ps_gen.proofs.kept.keep.Goals as goal

pub returns-in_ok-put-in-Kept : goal.returns-in_ok-put-in-Kept
returns-in_ok-put-in-Kept c =
    on_ok c.put-then-is_number.result (λ keep. kept_number (param_of c.args.param.now) c.args.nums c.args.refs c.in-Kept.u c.in-Kept.i c.in-Kept.is (sym c.is_number.ensures ∙ c.if-is_number.true) c.in_ok-put-in-Kept.ensures keep) c.put-then-is_number.ensures

pub returns-in_ok-put-in-Kept-2 : goal.returns-in_ok-put-in-Kept-2
returns-in_ok-put-in-Kept-2 c =
    on_ok c.put-else-is_number-2.result (λ keep. kept_reference (param_of c.args.param.now) c.args.nums c.args.refs c.in-Kept.u c.in-Kept.i c.in-Kept.is (sym c.is_number.ensures ∙ c.if-is_number.false) c.in_ok-put-in-Kept-2.ensures keep) c.put-else-is_number-2.ensures
