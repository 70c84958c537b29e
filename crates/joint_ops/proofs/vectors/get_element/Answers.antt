use Rattle.std.proofs.Common.{w32}
use Rattle.std.proofs.lemmas.Int.{to_z-of_z}
use Rattle.joint_ops.proofs.SeenLaws.{vector-denoted, vector-at}
use Rattle.joint_ops.proofs.ElementLaws.{answers-element, element-leaves, element-breaks, element-near, element-keeps}
use Rattle.joint_ops.proofs.vectors.get_element.Goals as goal

pub returns-clause-got : goal.returns-clause-got
returns-clause-got g c of names id world d =
    let old = c.args.sw.now in
    let before = g.V.Vault.outside c.args.vault.now in
    answers-element old c.get_element-got.new.sw before (g.V.Vault.outside c.get_element-got.new.vault) of names c.sound.ensures c.sound-2.ensures world
    (g.met.V.Vault.one c.args.vault.now) (g.met.V.Vault.one c.get_element-got.new.vault)
    c.args.vector id c.args.at _ c.get_element-got.result (to_z-of_z w32 c.args.at c.ranges.at)
    (vector-at old before of names c.args.vector id c.sound.ensures world
    (vector-denoted old before names c.args.vector id c.sound.ensures d)) c.get_element-got.ensures.got

pub returns-clause-leaves : goal.returns-clause-leaves
returns-clause-leaves g c =
    element-leaves c.args.sw.now c.get_element-got.new.sw (g.V.Vault.outside c.args.vault.now) (g.V.Vault.outside c.get_element-got.new.vault)
    c.args.vector _ c.get_element-got.result c.get_element-got.ensures.got

pub returns-clause-fails : goal.returns-clause-fails
returns-clause-fails g c =
    element-breaks c.args.sw.now c.get_element-got.new.sw (g.V.Vault.outside c.args.vault.now) (g.V.Vault.outside c.get_element-got.new.vault)
    c.args.vector _ c.get_element-got.result c.get_element-got.ensures.got

pub returns-clause-near : goal.returns-clause-near
returns-clause-near g c =
    element-near c.args.sw.now c.get_element-got.new.sw (g.V.Vault.outside c.args.vault.now) (g.V.Vault.outside c.get_element-got.new.vault)
    c.args.vector _ c.get_element-got.result c.get_element-got.ensures.got

pub returns-clause-keeps : goal.returns-clause-keeps
returns-clause-keeps g c =
    element-keeps c.args.sw.now c.get_element-got.new.sw (g.V.Vault.outside c.args.vault.now) (g.V.Vault.outside c.get_element-got.new.vault)
    c.args.vector _ c.get_element-got.result c.get_element-got.ensures.got
