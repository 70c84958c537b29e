use Rattle.table_nodes.specs.Sought.{keys_of}
use Rattle.table_lib.proofs.WriteLaws.{but_written, table_written, wrote_one}
use Rattle.table_nodes.proofs.BringLaws.{none_mark, none_num, none_ref}
use Rattle.table_lib.proofs.words.write_table.Goals as goal

pub returns-clause-written : goal.returns-clause-written
returns-clause-written g c =
    table_written c.args.sw.now c.set_ref.new.self c.set_num.new.self c.set_num-2.new.self c.mark.new.self (g.V.Vault.outside c.args.vault.now) c.args.at c.args.root (keys_of c.args.keys) c.number_of.result c.args.count c.number_of.ensures
    c.requires.table c.requires.root c.sound.ensures c.sound-2.ensures c.sound-3.ensures c.sound-4.ensures c.sound-5.ensures
    c.set_ref.ensures.written c.set_num.ensures.written c.set_num-2.ensures.written c.mark.ensures.written
    c.set_ref.ensures.stands c.set_num.ensures.stands c.set_num-2.ensures.stands c.mark.ensures.stands

pub returns-clause-spares : goal.returns-clause-spares
returns-clause-spares g c =
    but_written c.args.sw.now c.mark.new.self (g.V.Vault.outside c.args.vault.now) c.args.at c.sound.ensures c.requires.table.held
    (wrote_one c.args.sw.now c.set_ref.new.self c.set_num.new.self c.set_num-2.new.self c.mark.new.self (g.V.Vault.outside c.args.vault.now) c.args.at c.args.root (keys_of c.args.keys) c.number_of.result c.args.count c.number_of.ensures
    c.requires.table c.requires.root c.sound.ensures c.sound-2.ensures c.sound-3.ensures c.sound-4.ensures c.sound-5.ensures
    c.set_ref.ensures.written c.set_num.ensures.written c.set_num-2.ensures.written c.mark.ensures.written
    c.set_ref.ensures.stands c.set_num.ensures.stands c.set_num-2.ensures.stands c.mark.ensures.stands)

pub returns-clause-none : goal.returns-clause-none
returns-clause-none g c at held =
    let there = c.requires.table.held in
    let there1 = (c.set_ref.ensures.stands c.args.at there).held in
    let there2 = (c.set_num.ensures.stands c.args.at there1).held in
    let there3 = (c.set_num-2.ensures.stands c.args.at there2).held in
    none_ref c.args.sw.now c.set_ref.new.self c.args.at 0 _ there c.set_ref.ensures.written at
    (none_num c.set_ref.new.self c.set_num.new.self c.args.at 1 _ there1 c.set_num.ensures.written at
    (none_num c.set_num.new.self c.set_num-2.new.self c.args.at 2 _ there2 c.set_num-2.ensures.written at
    (none_mark c.set_num-2.new.self c.mark.new.self c.args.at there3 c.mark.ensures.written at held)))
