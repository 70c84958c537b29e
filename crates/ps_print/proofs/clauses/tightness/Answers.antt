use Rattle.ps_print.proofs.Views.{binds_loosest}
use Rattle.ps_print.proofs.clauses.tightness.Goals as goal

pub returns-in_default : goal.returns-in_default
returns-in_default c =
    let no = c.in_default in
    binds_loosest c.args.form.now no.not-Sequence no.not-Or no.not-And no.not-Not no.not-Compare no.not-Is no.not-Join no.not-Arith no.not-Plus no.not-Neg no.not-Apply no.not-Part no.not-Name no.not-Int no.not-Text no.not-Flag no.not-Nil no.not-Bound no.not-Elems
