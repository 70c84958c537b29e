use Rattle.heap_meaning.specs.ps_heap.Values.{Vector}
use Rattle.heap_meaning.specs.ps_heap.Objects.{high_of}
use Rattle.joint_ops.specs.World.{Stands}
use Rattle.joint_ops.proofs.SeenLaws.{vector-denoted, vector-at}
use Rattle.joint_ops.proofs.ElementLaws.{answers-high, breaks-high, high-int, bound-back}
use Rattle.joint_ops.proofs.vectors.high.Goals as goal

pub returns-in-Ok-clause-got : goal.returns-in-Ok-clause-got
returns-in-Ok-clause-got g c of names id world d =
    let old = c.args.sw.now in
    let new = c.high-got.new.sw in
    let before = g.V.Vault.outside c.args.vault.now in
    let after = g.V.Vault.outside c.high-got.new.vault in
    let v = vector-at old before of names c.args.vector id c.sound.ensures world (vector-denoted old before names c.args.vector id c.sound.ensures d) in
    bound-back (Stands old new before after of names) c.in-Ok.high (high_of of (Vector id)) (high-int old before of names c.args.vector id v)
    (answers-high old new before after of names c.sound.ensures c.sound-2.ensures world
    (g.met.V.Vault.one c.args.vault.now) (g.met.V.Vault.one c.high-got.new.vault) c.args.vector id c.in-Ok.high v c.in-Ok.ensures.told)

pub returns-in-Err-clause-got : goal.returns-in-Err-clause-got
returns-in-Err-clause-got g c of names id world d =
    let old = c.args.sw.now in
    let before = g.V.Vault.outside c.args.vault.now in
    breaks-high old c.high-got.new.sw before (g.V.Vault.outside c.high-got.new.vault) of names c.sound.ensures c.sound-2.ensures world
    (g.met.V.Vault.one c.args.vault.now) (g.met.V.Vault.one c.high-got.new.vault) c.args.vector id c.in-Err.fault
    (vector-at old before of names c.args.vector id c.sound.ensures world
    (vector-denoted old before names c.args.vector id c.sound.ensures d)) c.in-Err.ensures.told

pub returns-in-Ok-clause-keeps : goal.returns-in-Ok-clause-keeps
returns-in-Ok-clause-keeps g c = c.in-Ok.ensures.told.1.reads.keeps
