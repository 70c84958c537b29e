use Rattle.std.proofs.Common.{Ok, Err}
use Rattle.joint_tables.proofs.MadeLaws.{table-breaks, table-keeps, table-made}
use Rattle.joint_tables.proofs.tables.table_new.Goals as goal

pub returns-in-Ok-clause-made : goal.returns-in-Ok-clause-made
returns-in-Ok-clause-made g c of names world =
    table-made c.args.sw.now c.table_new-made.new.sw (g.V.Vault.outside c.args._vault.now) of names
    (Ok c.in-Ok.at) c.sound.ensures c.sound-2.ensures world c.in-Ok.ensures.made

pub returns-in-Err-clause-made : goal.returns-in-Err-clause-made
returns-in-Err-clause-made g c of names world =
    table-made c.args.sw.now c.table_new-made.new.sw (g.V.Vault.outside c.args._vault.now) of names
    (Err c.in-Err.fault) c.sound.ensures c.sound-2.ensures world c.in-Err.ensures.made

pub returns-in-Err-clause-fails : goal.returns-in-Err-clause-fails
returns-in-Err-clause-fails g c = table-breaks c.args.sw.now c.table_new-made.new.sw (Err c.in-Err.fault) c.in-Err.ensures.made

pub returns-in-Ok-clause-keeps : goal.returns-in-Ok-clause-keeps
returns-in-Ok-clause-keeps g c = table-keeps c.args.sw.now c.table_new-made.new.sw (Ok c.in-Ok.at) c.sound.ensures c.in-Ok.ensures.made

pub returns-in-Err-clause-keeps : goal.returns-in-Err-clause-keeps
returns-in-Err-clause-keeps g c = table-keeps c.args.sw.now c.table_new-made.new.sw (Err c.in-Err.fault) c.sound.ensures c.in-Err.ensures.made
