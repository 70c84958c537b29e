use Rattle.ps_reread.proofs.Read.{read_one_for_one, symbol_between, symbols_count}
use Rattle.ps_reread.proofs.laws.print_is_read.Goals as goal

pub returns-clause-one_for_one : goal.returns-clause-one_for_one
returns-clause-one_for_one c = read_one_for_one

pub returns-clause-symbol : goal.returns-clause-symbol
returns-clause-symbol c = symbol_between

pub returns-clause-count : goal.returns-clause-count
returns-clause-count c = symbols_count
