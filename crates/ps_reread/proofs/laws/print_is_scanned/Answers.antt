use Rattle.ps_reread.proofs.Parts.{token_between, slice_between}
use Rattle.ps_reread.proofs.Texts.{printed_scans, printed_spelled}
use Rattle.ps_reread.proofs.laws.print_is_scanned.Goals as goal

pub returns-clause-tokens : goal.returns-clause-tokens
returns-clause-tokens c = printed_scans

pub returns-clause-spelled : goal.returns-clause-spelled
returns-clause-spelled c = printed_spelled

pub returns-clause-between : goal.returns-clause-between
returns-clause-between c = token_between

pub returns-clause-slice : goal.returns-clause-slice
returns-clause-slice c = slice_between
