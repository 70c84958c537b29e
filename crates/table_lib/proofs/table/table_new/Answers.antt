use Rattle.table_lib.proofs.OpenLaws.{made_unused}
use Rattle.table_lib.proofs.table.table_new.Goals as goal

pub returns-clause-unused : goal.returns-clause-unused
returns-clause-unused c = made_unused c.args.sw.now c.make.new.self c.make.result c.make.ensures.made
