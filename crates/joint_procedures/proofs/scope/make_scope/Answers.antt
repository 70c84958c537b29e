use Rattle.joint_ops.specs.swizzle.Text.{text_at}
use Rattle.joint_ops.proofs.SeenLaws.{text-denoted}
use Rattle.joint_procedures.proofs.ScopeLaws.{makes-scope, scope-held, making-fails, making-keeps}
use Rattle.joint_procedures.proofs.scope.make_scope.Goals as goal

pub returns-clause-made : goal.returns-clause-made
returns-clause-made g c of names bytes round world dt dp =
    let outside = g.V.Vault.outside c.args._vault.now in
    makes-scope c.args.sw.now c.make_scope-made.new.sw outside of names c.args.text c.args.parent bytes round c.make_scope-made.result
    c.sound.ensures c.sound-2.ensures world c.requires.text c.requires.parent (text-denoted c.args.sw.now outside names c.args.text bytes c.sound.ensures dt).bytes_are
    dt dp c.make_scope-made.ensures.made

pub returns-clause-fails : goal.returns-clause-fails
returns-clause-fails g c =
    making-fails c.args.sw.now c.make_scope-made.new.sw c.args.text c.args.parent (text_at c.args.sw.now c.args.text) c.make_scope-made.result
    c.make_scope-made.ensures.made

pub returns-clause-held : goal.returns-clause-held
returns-clause-held g c =
    scope-held c.args.sw.now c.make_scope-made.new.sw c.args.text c.args.parent (text_at c.args.sw.now c.args.text) c.make_scope-made.result
    c.make_scope-made.ensures.made

pub returns-clause-keeps : goal.returns-clause-keeps
returns-clause-keeps g c =
    making-keeps c.args.sw.now c.make_scope-made.new.sw c.args.text c.args.parent (text_at c.args.sw.now c.args.text) c.make_scope-made.result
    c.sound.ensures c.make_scope-made.ensures.made
