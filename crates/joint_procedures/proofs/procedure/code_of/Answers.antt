use Rattle.joint_procedures.proofs.ProcedureLaws.{procedure-denoted, code-slot_of, code-kind, code-keeps, answers-code, code-held, code-leaves, code-fails}
use Rattle.joint_procedures.proofs.procedure.code_of.Goals as goal

pub returns-clause-got : goal.returns-clause-got
returns-clause-got g c of names u within world d =
    let before = g.V.Vault.outside c.args.vault.now in
    answers-code c.args.sw.now c.code_of-got.new.sw before (g.V.Vault.outside c.code_of-got.new.vault) of names
    c.args.procedure u within c.sound.ensures c.sound-2.ensures world
    (procedure-denoted c.args.sw.now before names c.args.procedure u within c.sound.ensures d) c.code_of-got.result c.code_of-got.ensures.told

pub returns-clause-leaves : goal.returns-clause-leaves
returns-clause-leaves g c =
    code-leaves c.args.sw.now c.code_of-got.new.sw (g.V.Vault.outside c.args.vault.now) (g.V.Vault.outside c.code_of-got.new.vault)
    c.args.procedure c.code_of-got.result c.code_of-got.ensures.told

pub returns-clause-fails : goal.returns-clause-fails
returns-clause-fails g c =
    code-fails c.args.sw.now c.code_of-got.new.sw (g.V.Vault.outside c.args.vault.now) (g.V.Vault.outside c.code_of-got.new.vault)
    c.args.procedure c.code_of-got.result c.code_of-got.ensures.told

pub returns-clause-held : goal.returns-clause-held
returns-clause-held g c =
    code-held c.args.sw.now c.code_of-got.new.sw (g.V.Vault.outside c.args.vault.now) (g.V.Vault.outside c.code_of-got.new.vault)
    c.args.procedure c.code_of-got.result c.code_of-got.ensures.told

pub returns-clause-keeps : goal.returns-clause-keeps
returns-clause-keeps g c =
    code-keeps c.args.sw.now c.code_of-got.new.sw (g.V.Vault.outside c.args.vault.now) (g.V.Vault.outside c.code_of-got.new.vault)
    c.args.procedure c.code_of-got.result c.code_of-got.ensures.told

pub returns-clause-slot : goal.returns-clause-slot
returns-clause-slot g c =
    code-slot_of c.args.sw.now c.code_of-got.new.sw (g.V.Vault.outside c.args.vault.now) (g.V.Vault.outside c.code_of-got.new.vault)
    c.args.procedure c.code_of-got.result c.requires.held c.code_of-got.ensures.told

pub returns-clause-code : goal.returns-clause-code
returns-clause-code g c =
    code-kind c.args.sw.now c.code_of-got.new.sw (g.V.Vault.outside c.args.vault.now) (g.V.Vault.outside c.code_of-got.new.vault)
    c.args.procedure c.code_of-got.result c.code_of-got.ensures.told
