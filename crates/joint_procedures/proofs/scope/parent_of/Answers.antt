use Rattle.joint_procedures.proofs.ScopeLaws.{scope-denoted, answers-parent, parent-held, parent-leaves, parent-fails, round-keeps}
use Rattle.joint_procedures.proofs.scope.parent_of.Goals as goal

pub returns-clause-got : goal.returns-clause-got
returns-clause-got g c of names within world d =
    let before = g.V.Vault.outside c.args.vault.now in
    answers-parent c.args.sw.now c.parent_of-got.new.sw before (g.V.Vault.outside c.parent_of-got.new.vault) of names
    c.args.scope within c.parent_of-got.result c.sound.ensures c.sound-2.ensures world
    (scope-denoted c.args.sw.now before of names c.args.scope within c.sound.ensures world (g.met.V.Vault.one c.args.vault.now) d)
    c.parent_of-got.ensures.told

pub returns-clause-leaves : goal.returns-clause-leaves
returns-clause-leaves g c =
    parent-leaves c.args.sw.now c.parent_of-got.new.sw (g.V.Vault.outside c.args.vault.now) (g.V.Vault.outside c.parent_of-got.new.vault)
    c.args.scope c.parent_of-got.result c.parent_of-got.ensures.told

pub returns-clause-fails : goal.returns-clause-fails
returns-clause-fails g c =
    parent-fails c.args.sw.now c.parent_of-got.new.sw (g.V.Vault.outside c.args.vault.now) (g.V.Vault.outside c.parent_of-got.new.vault)
    c.args.scope c.parent_of-got.result c.parent_of-got.ensures.told

pub returns-clause-held : goal.returns-clause-held
returns-clause-held g c =
    parent-held c.args.sw.now c.parent_of-got.new.sw (g.V.Vault.outside c.args.vault.now) (g.V.Vault.outside c.parent_of-got.new.vault)
    c.args.scope c.parent_of-got.result c.parent_of-got.ensures.told

pub returns-clause-keeps : goal.returns-clause-keeps
returns-clause-keeps g c =
    round-keeps c.args.sw.now c.parent_of-got.new.sw (g.V.Vault.outside c.args.vault.now) (g.V.Vault.outside c.parent_of-got.new.vault)
    c.args.scope c.parent_of-got.result c.parent_of-got.ensures.told
