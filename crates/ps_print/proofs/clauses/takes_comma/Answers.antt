use Rattle.ps_print.proofs.Views.{takes_no_comma}
use Rattle.ps_print.proofs.clauses.takes_comma.Goals as goal

pub returns-in_default : goal.returns-in_default
returns-in_default c = takes_no_comma c.args.form.now c.in_default.not-Write
