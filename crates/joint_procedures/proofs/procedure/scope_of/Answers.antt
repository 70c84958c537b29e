use Rattle.joint_procedures.proofs.ProcedureLaws.{procedure-denoted, scope-slot_of, scope-keeps, answers-scope, round-held, scope-leaves, scope-fails}
use Rattle.joint_procedures.proofs.procedure.scope_of.Goals as goal

pub returns-clause-got : goal.returns-clause-got
returns-clause-got g c of names u within world d =
    let before = g.V.Vault.outside c.args.vault.now in
    answers-scope c.args.sw.now c.scope_of-got.new.sw before (g.V.Vault.outside c.scope_of-got.new.vault) of names
    c.args.procedure u within c.sound.ensures c.sound-2.ensures world
    (procedure-denoted c.args.sw.now before names c.args.procedure u within c.sound.ensures d) c.scope_of-got.result c.scope_of-got.ensures.told

pub returns-clause-leaves : goal.returns-clause-leaves
returns-clause-leaves g c =
    scope-leaves c.args.sw.now c.scope_of-got.new.sw (g.V.Vault.outside c.args.vault.now) (g.V.Vault.outside c.scope_of-got.new.vault)
    c.args.procedure c.scope_of-got.result c.scope_of-got.ensures.told

pub returns-clause-fails : goal.returns-clause-fails
returns-clause-fails g c =
    scope-fails c.args.sw.now c.scope_of-got.new.sw (g.V.Vault.outside c.args.vault.now) (g.V.Vault.outside c.scope_of-got.new.vault)
    c.args.procedure c.scope_of-got.result c.scope_of-got.ensures.told

pub returns-clause-held : goal.returns-clause-held
returns-clause-held g c =
    round-held c.args.sw.now c.scope_of-got.new.sw (g.V.Vault.outside c.args.vault.now) (g.V.Vault.outside c.scope_of-got.new.vault)
    c.args.procedure c.scope_of-got.result c.scope_of-got.ensures.told

pub returns-clause-keeps : goal.returns-clause-keeps
returns-clause-keeps g c =
    scope-keeps c.args.sw.now c.scope_of-got.new.sw (g.V.Vault.outside c.args.vault.now) (g.V.Vault.outside c.scope_of-got.new.vault)
    c.args.procedure c.scope_of-got.result c.scope_of-got.ensures.told

pub returns-clause-slot : goal.returns-clause-slot
returns-clause-slot g c =
    scope-slot_of c.args.sw.now c.scope_of-got.new.sw (g.V.Vault.outside c.args.vault.now) (g.V.Vault.outside c.scope_of-got.new.vault)
    c.args.procedure c.scope_of-got.result c.requires.held c.scope_of-got.ensures.told
