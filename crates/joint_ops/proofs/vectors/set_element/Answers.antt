use Rattle.std.proofs.Common.{w32}
use Rattle.std.proofs.lemmas.Int.{to_z-of_z}
use Rattle.joint_ops.proofs.SeenLaws.{vector-denoted, vector-at}
use Rattle.joint_ops.proofs.ElementLaws.{writes-element, put-leaves, put-breaks}
use Rattle.joint_ops.proofs.vectors.set_element.Goals as goal

pub returns-clause-set : goal.returns-clause-set
returns-clause-set g c of names id v world d form for =
    let old = c.args.sw.now in
    let before = g.V.Vault.outside c.args.vault.now in
    writes-element old c.set_element-set.new.sw before (g.V.Vault.outside c.set_element-set.new.vault) of names c.sound.ensures c.sound-2.ensures world
    (g.met.V.Vault.one c.args.vault.now) (g.met.V.Vault.one c.set_element-set.new.vault)
    c.args.vector id c.args.at _ c.args.to v c.set_element-set.result (to_z-of_z w32 c.args.at c.ranges.at)
    (vector-at old before of names c.args.vector id c.sound.ensures world
    (vector-denoted old before names c.args.vector id c.sound.ensures d)) form for c.set_element-set.ensures.set

pub returns-clause-leaves : goal.returns-clause-leaves
returns-clause-leaves g c =
    put-leaves c.args.sw.now c.set_element-set.new.sw (g.V.Vault.outside c.args.vault.now) (g.V.Vault.outside c.set_element-set.new.vault)
    c.args.vector _ c.args.to c.set_element-set.result c.set_element-set.ensures.set

pub returns-clause-fails : goal.returns-clause-fails
returns-clause-fails g c =
    put-breaks c.args.sw.now c.set_element-set.new.sw (g.V.Vault.outside c.args.vault.now) (g.V.Vault.outside c.set_element-set.new.vault)
    c.args.vector _ c.args.to c.set_element-set.result c.set_element-set.ensures.set
