use Rattle.joint_ops.proofs.of_swizzle.TouchLaws.{keeps-trans}
use Rattle.objects.proofs.BodyLaws.{scope-failed, body-fetched, has-body}
use Rattle.objects.proofs.body.fetch_body.Goals as goal

pub returns-in-Err-scope_of-clause-got : goal.returns-in-Err-scope_of-clause-got
returns-in-Err-scope_of-clause-got g c =
    scope-failed c.args.sw.now c.code_of.new.sw c.scope_of.new.sw (g.V.Vault.outside c.args.vault.now) (g.V.Vault.outside c.code_of.new.vault)
    (g.V.Vault.outside c.scope_of.new.vault) c.args.procedure c.sound.ensures c.in-Ok.ensures.keeps c.in-Ok.ensures.leaves c.in-Ok.code
    c.in-Ok.ensures.got c.in-Err-scope_of.fault c.in-Err-scope_of.ensures.got

pub returns-clause-body : goal.returns-clause-body
returns-clause-body g c =
    has-body c.code_of.new.sw c.scope_of.new.sw c.args.procedure c.in-Ok.code c.in-Ok-scope_of.scope c.body_with.result c.in-Ok-scope_of.ensures.keeps
    c.in-Ok.ensures.slot c.in-Ok-scope_of.ensures.slot c.body_with.ensures.code_is c.body_with.ensures.scope_is c.body_with.ensures.code

pub returns-clause-got : goal.returns-clause-got
returns-clause-got g c =
    body-fetched c.args.sw.now c.code_of.new.sw c.scope_of.new.sw (g.V.Vault.outside c.args.vault.now) (g.V.Vault.outside c.code_of.new.vault)
    (g.V.Vault.outside c.scope_of.new.vault) c.args.procedure c.sound.ensures c.in-Ok.ensures.keeps c.in-Ok.ensures.leaves c.in-Ok.code
    c.in-Ok.ensures.got c.in-Ok-scope_of.scope c.body_with.result c.sound-2.ensures c.in-Ok-scope_of.ensures.got (returns-clause-body g c)

pub returns-clause-keeps : goal.returns-clause-keeps
returns-clause-keeps g c =
    keeps-trans c.args.sw.now c.code_of.new.sw c.scope_of.new.sw c.in-Ok.ensures.keeps c.in-Ok-scope_of.ensures.keeps
