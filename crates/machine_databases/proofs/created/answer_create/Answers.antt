use Rattle.std.proofs.Common.{subst}
use Rattle.std.specs.Prelude.{Ok}
use Rattle.joint_databases.specs.declared.calls.Creation.{Creation}
use Rattle.machine_core.proofs.Failing.{whole-failing}
use Rattle.machine_databases.proofs.Calling.{names-lent}
use Rattle.machine_databases.proofs.Creating.{ToldOf, fault-follows, made-follows, off-follows}
use Rattle.machine_databases.proofs.created.answer_create.Goals as goal

pub give_created-requires-clause-names : goal.give_created-requires-clause-names
give_created-requires-clause-names g c =
    names-lent c.args.m.now c.area.result.now c.create.new.sw c.area.ensures.same c.in-Ok-Made.ensures.stands c.requires.names

pub push_refusal-requires-clause-names : goal.push_refusal-requires-clause-names
push_refusal-requires-clause-names g c =
    names-lent c.args.m.now c.area.result.now c.create.new.sw c.area.ensures.same c.in-Ok-Fault.ensures.stands c.requires.names

pub returns-in-Ok-Made-clause-follows : goal.returns-in-Ok-Made-clause-follows
returns-in-Ok-Made-clause-follows g c =
    made-follows (g.V.Vault.outside c.args.vault.now) (g.V.Vault.outside c.create.new.vault) c.args.m.now c.create.new.sw c.args.name c.args.password c.area.result.now
    c.area.ensures.same c.in-Ok-Made.number c.in-Ok-Made.root c.in-Ok-Made.directory c.give_created.new.m c.give_created.result
    (subst (λ (x : Creation). ToldOf (g.V.Vault.outside c.args.vault.now) (g.V.Vault.outside c.create.new.vault) c.args.m.now c.create.new.sw c.args.name c.args.password c.area.result.now (Ok x)) c.in-Ok-Made.field-0-is c.in-Ok-Made.ensures.run)
    c.in-Ok-Made.ensures.size
    (c.give_created.ensures c.args.vault.now c.create.new.vault)

pub returns-in-Ok-Made-clause-fails : goal.returns-in-Ok-Made-clause-fails
returns-in-Ok-Made-clause-fails g c =
    whole-failing (g.V.Vault.outside c.args.vault.now) (g.V.Vault.outside c.create.new.vault) c.give_created.result c.give_created.new.m
    (c.give_created.ensures c.args.vault.now c.create.new.vault).goes

pub returns-in-Ok-Fault-clause-follows : goal.returns-in-Ok-Fault-clause-follows
returns-in-Ok-Fault-clause-follows g c =
    fault-follows (g.V.Vault.outside c.args.vault.now) (g.V.Vault.outside c.create.new.vault) c.args.m.now c.create.new.sw c.args.name c.args.password c.area.result.now
    c.area.ensures.same c.in-Ok-Fault.fault c.push_refusal.new.m c.push_refusal.result
    (subst (λ (x : Creation). ToldOf (g.V.Vault.outside c.args.vault.now) (g.V.Vault.outside c.create.new.vault) c.args.m.now c.create.new.sw c.args.name c.args.password c.area.result.now (Ok x)) c.in-Ok-Fault.field-0-is c.in-Ok-Fault.ensures.run)
    c.in-Ok-Fault.ensures.leaves c.in-Ok-Fault.ensures.size
    c.push_refusal.ensures.gives

pub returns-in-Err-clause-follows : goal.returns-in-Err-clause-follows
returns-in-Err-clause-follows g c =
    off-follows (g.V.Vault.outside c.args.vault.now) (g.V.Vault.outside c.create.new.vault) c.args.m.now c.create.new.sw c.args.name c.args.password c.area.result.now
    c.area.ensures.same c.in-Err.fault c.requires.sound c.in-Err.ensures.run c.requires.room
