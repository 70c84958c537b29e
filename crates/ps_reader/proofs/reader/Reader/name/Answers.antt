use Rattle.ps_reader.proofs.Steps.{no_name, spelled}
use Rattle.ps_reader.proofs.reader.Reader.name.Goals as goal

pub returns-in_err-symbol : goal.returns-in_err-symbol
returns-in_err-symbol c = no_name _ c.from_residual.result c.from_residual.ensures.1 c.in_err-symbol.ensures

pub returns : goal.returns
returns c = spelled c.spelled.result c.spelled.ensures c.in_ok-symbol.ensures
