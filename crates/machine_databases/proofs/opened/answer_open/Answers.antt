use Rattle.std.proofs.Common.{subst}
use Rattle.std.specs.Prelude.{Ok}
use Rattle.machine_core.specs.joint_held.db_dir.declared.admit.Admitted.{Admitted}
use Rattle.machine_core.proofs.Failing.{whole-failing}
use Rattle.machine_databases.proofs.Calling.{names-lent}
use Rattle.machine_databases.proofs.Opening.{ToldOf, fault-follows, off-follows, opened-follows}
use Rattle.machine_databases.proofs.opened.answer_open.Goals as goal

pub give_opened-requires-clause-names : goal.give_opened-requires-clause-names
give_opened-requires-clause-names g c =
    names-lent c.args.m.now c.area.result.now c.open.new.sw c.area.ensures.same c.in-Ok-Root.ensures.stands c.requires.names

pub push_refusal-requires-clause-names : goal.push_refusal-requires-clause-names
push_refusal-requires-clause-names g c =
    names-lent c.args.m.now c.area.result.now c.open.new.sw c.area.ensures.same c.in-Ok-Fault.ensures.stands c.requires.names

pub returns-in-Ok-Root-clause-follows : goal.returns-in-Ok-Root-clause-follows
returns-in-Ok-Root-clause-follows g c =
    opened-follows (g.V.Vault.outside c.args.vault.now) (g.V.Vault.outside c.open.new.vault) c.args.m.now c.open.new.sw c.args.name c.args.password c.args.mode c.area.result.now
    c.area.ensures.same c.in-Ok-Root.number c.in-Ok-Root.root c.in-Ok-Root.writing c.give_opened.new.m c.give_opened.result
    (subst (λ (x : Admitted). ToldOf (g.V.Vault.outside c.args.vault.now) (g.V.Vault.outside c.open.new.vault) c.args.m.now c.open.new.sw c.args.name c.args.password c.args.mode c.area.result.now (Ok x)) c.in-Ok-Root.field-0-is c.in-Ok-Root.ensures.run)
    c.in-Ok-Root.ensures.size
    (c.give_opened.ensures c.args.vault.now c.open.new.vault)

pub returns-in-Ok-Root-clause-fails : goal.returns-in-Ok-Root-clause-fails
returns-in-Ok-Root-clause-fails g c =
    whole-failing (g.V.Vault.outside c.args.vault.now) (g.V.Vault.outside c.open.new.vault) c.give_opened.result c.give_opened.new.m
    (c.give_opened.ensures c.args.vault.now c.open.new.vault).goes

pub returns-in-Ok-Fault-clause-follows : goal.returns-in-Ok-Fault-clause-follows
returns-in-Ok-Fault-clause-follows g c =
    fault-follows (g.V.Vault.outside c.args.vault.now) (g.V.Vault.outside c.open.new.vault) c.args.m.now c.open.new.sw c.args.name c.args.password c.args.mode c.area.result.now
    c.area.ensures.same c.in-Ok-Fault.fault c.push_refusal.new.m c.push_refusal.result
    (subst (λ (x : Admitted). ToldOf (g.V.Vault.outside c.args.vault.now) (g.V.Vault.outside c.open.new.vault) c.args.m.now c.open.new.sw c.args.name c.args.password c.args.mode c.area.result.now (Ok x)) c.in-Ok-Fault.field-0-is c.in-Ok-Fault.ensures.run)
    c.in-Ok-Fault.ensures.leaves c.in-Ok-Fault.ensures.size
    c.push_refusal.ensures.gives

pub returns-in-Err-clause-follows : goal.returns-in-Err-clause-follows
returns-in-Err-clause-follows g c =
    off-follows (g.V.Vault.outside c.args.vault.now) (g.V.Vault.outside c.open.new.vault) c.args.m.now c.open.new.sw c.args.name c.args.password c.args.mode c.area.result.now
    c.area.ensures.same c.in-Err.fault c.requires.sound c.in-Err.ensures.run
