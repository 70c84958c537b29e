use Rattle.std.proofs.Common.{Ok, Err, subst}
use Rattle.table_nodes.specs.Sought.{kind_of, key_in}
use Rattle.table_nodes.specs.Steps.{place}
use Rattle.table_lib.specs.Operations.{Opens}
use Rattle.table_lib.proofs.EnterLaws.{enters_refused, enters_done}
use Rattle.table_nodes.proofs.BringLaws.{brings_none}
use Rattle.table_lib.proofs.FaultLaws.{not_opened, opened_failed}
use Rattle.table_nodes.specs.Faults.{IsChangeFault}
use Rattle.table_nodes.proofs.NodeLaws.{grows_none}
use Rattle.table_lib.proofs.enter.enter_key.Goals as goal

pub returns-in-Err-clause-entered : goal.returns-in-Err-clause-entered
returns-in-Err-clause-entered g c =
    enters_refused _ (kind_of c.args.key) (place c.args.sw.now (g.V.Vault.outside c.args.vault.now)) (place c.args.sw.now (g.V.Vault.outside c.args.vault.now)) c.args.table (key_in c.args.sw.now c.args.key) c.in-Err.fault c.args.to
    (subst (λ ks. Opens ks c.args.sw.now c.args.table (Err c.in-Err.fault)) c.kind_of_key.ensures c.in-Err.ensures.opens)

pub returns-in-Ok-enter_opened-clause-entered : goal.returns-in-Ok-enter_opened-clause-entered
returns-in-Ok-enter_opened-clause-entered g c =
    enters_done _ (kind_of c.args.key) (place c.args.sw.now (g.V.Vault.outside c.args.vault.now)) (place c.enter_opened.new.sw (g.V.Vault.outside c.enter_opened.new.vault)) c.args.table (key_in c.args.sw.now c.args.key) c.in-Ok.opened
    (subst (λ ks. Opens ks c.args.sw.now c.args.table (Ok c.in-Ok.opened)) c.kind_of_key.ensures c.in-Ok.ensures.opens) c.args.to (Ok tt)
    c.in-Ok-enter_opened.ensures.put c.in-Ok-enter_opened.ensures.taken c.in-Ok-enter_opened.ensures.marked

pub returns-in-Err-enter_opened-clause-entered : goal.returns-in-Err-enter_opened-clause-entered
returns-in-Err-enter_opened-clause-entered g c =
    enters_done _ (kind_of c.args.key) (place c.args.sw.now (g.V.Vault.outside c.args.vault.now)) (place c.enter_opened.new.sw (g.V.Vault.outside c.enter_opened.new.vault)) c.args.table (key_in c.args.sw.now c.args.key) c.in-Ok.opened
    (subst (λ ks. Opens ks c.args.sw.now c.args.table (Ok c.in-Ok.opened)) c.kind_of_key.ensures c.in-Ok.ensures.opens) c.args.to (Err c.in-Err-enter_opened.fault)
    c.in-Err-enter_opened.ensures.put c.in-Err-enter_opened.ensures.taken c.in-Err-enter_opened.ensures.marked

pub returns-in-Err-clause-brings : goal.returns-in-Err-clause-brings
returns-in-Err-clause-brings g c at e = brings_none c.args.sw.now _

pub returns-in-Err-clause-still : goal.returns-in-Err-clause-still
returns-in-Err-clause-still g c = grows_none c.args.sw.now (g.V.Vault.outside c.args.vault.now) c.sound.ensures

pub returns-in-Err-clause-fault : goal.returns-in-Err-clause-fault
returns-in-Err-clause-fault g c = not_opened _ _ c.args.table c.in-Err.fault c.in-Err.ensures.fault

pub returns-in-Err-enter_opened-clause-fault : goal.returns-in-Err-enter_opened-clause-fault
returns-in-Err-enter_opened-clause-fault g c = opened_failed (IsChangeFault (g.V.Vault.outside c.args.vault.now) (g.V.Vault.outside c.enter_opened.new.vault) c.enter_opened.new.sw) _ c.args.table c.in-Ok.opened.at c.in-Err-enter_opened.fault c.in-Ok.ensures.opens.at_is c.in-Err-enter_opened.ensures.fault
