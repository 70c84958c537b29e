use Rattle.error_records.specs.Refusals.{context_of, fault_by}
use Rattle.machine_databases.proofs.Refusing.{breaks-record, gives-record, names-lent}
use Rattle.machine_databases.proofs.refusals.push_refusal.Goals as goal

pub push_object-requires-clause-names : goal.push_object-requires-clause-names
push_object-requires-clause-names g c =
    names-lent (g.V.Vault.outside c.args.vault.now) (context_of c.args.by) (fault_by c.args.why) c.args.m.now c.refuse.new.sw c.requires.sound c.area.result.now c.area.ensures.same
    c.in-Ok.ensures.keeps c.requires.names

pub returns-in-Ok-clause-gives : goal.returns-in-Ok-clause-gives
returns-in-Ok-clause-gives g c =
    gives-record (g.V.Vault.outside c.args.vault.now) (context_of c.args.by) (fault_by c.args.why) c.args.m.now c.refuse.new.sw c.requires.sound c.area.result.now
    c.area.ensures.same c.in-Ok.record c.push_object.new.m c.in-Ok.ensures.keeps c.in-Ok.ensures.run (c.push_object.ensures c.args.vault.now)

pub returns-in-Err-clause-gives : goal.returns-in-Err-clause-gives
returns-in-Err-clause-gives g c =
    breaks-record (g.V.Vault.outside c.args.vault.now) (context_of c.args.by) (fault_by c.args.why) c.args.m.now c.refuse.new.sw c.requires.sound c.area.result.now
    c.area.ensures.same c.in-Err.fault c.requires.room c.in-Err.ensures.fails
