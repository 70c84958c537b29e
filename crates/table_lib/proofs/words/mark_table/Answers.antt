use Rattle.table_lib.proofs.WriteLaws.{but_written, marked_one, table_marked}
use Rattle.table_nodes.proofs.BringLaws.{none_mark}
use Rattle.table_lib.proofs.words.mark_table.Goals as goal

pub returns-clause-marked : goal.returns-clause-marked
returns-clause-marked g c = table_marked c.args.sw.now c.mark.new.self (g.V.Vault.outside c.args.vault.now) c.args.at c.requires.table c.sound.ensures c.sound-2.ensures c.mark.ensures.written c.mark.ensures.stands

pub returns-clause-spares : goal.returns-clause-spares
returns-clause-spares g c =
    but_written c.args.sw.now c.mark.new.self (g.V.Vault.outside c.args.vault.now) c.args.at c.sound.ensures c.requires.table.held
    (marked_one c.args.sw.now c.mark.new.self (g.V.Vault.outside c.args.vault.now) c.args.at c.requires.table c.sound.ensures c.sound-2.ensures c.mark.ensures.written c.mark.ensures.stands)

pub returns-clause-none : goal.returns-clause-none
returns-clause-none g c at held = none_mark c.args.sw.now c.mark.new.self c.args.at c.requires.table.held c.mark.ensures.written at held
