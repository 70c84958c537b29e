use Rattle.joint_procedures.proofs.ProcedureLaws.{makes-procedure, closure-held, closure-fails, closure-keeps}
use Rattle.joint_procedures.proofs.procedure.make_procedure.Goals as goal

pub returns-clause-made : goal.returns-clause-made
returns-clause-made g c of names u within world is fit d =
    makes-procedure c.args.sw.now c.make_closure-made.new.sw (g.V.Vault.outside c.args._vault.now) of names c.args.code c.args.scope u within
    c.make_closure-made.result c.sound.ensures c.sound-2.ensures world c.requires.code c.requires.scope is fit d c.make_closure-made.ensures.made

pub returns-clause-fails : goal.returns-clause-fails
returns-clause-fails g c =
    closure-fails c.args.sw.now c.make_closure-made.new.sw c.args.code c.args.scope c.make_closure-made.result c.make_closure-made.ensures.made

pub returns-clause-held : goal.returns-clause-held
returns-clause-held g c =
    closure-held c.args.sw.now c.make_closure-made.new.sw c.args.code c.args.scope c.make_closure-made.result c.make_closure-made.ensures.made

pub returns-clause-keeps : goal.returns-clause-keeps
returns-clause-keeps g c =
    closure-keeps c.args.sw.now c.make_closure-made.new.sw c.args.code c.args.scope c.make_closure-made.result c.sound.ensures
    c.make_closure-made.ensures.made
