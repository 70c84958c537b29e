use Rattle.heap_meaning.specs.ps_heap.Values.{Vector}
use Rattle.heap_meaning.specs.ps_heap.Objects.{low_of}
use Rattle.joint_ops.specs.World.{Stands}
use Rattle.joint_ops.proofs.SeenLaws.{vector-denoted, vector-at}
use Rattle.joint_ops.proofs.ElementLaws.{answers-low, breaks-low, low-int, bound-back}
use Rattle.joint_ops.proofs.vectors.low.Goals as goal

pub returns-in-Ok-clause-got : goal.returns-in-Ok-clause-got
returns-in-Ok-clause-got g c of names id world d =
    let old = c.args.sw.now in
    let new = c.low-got.new.sw in
    let before = g.V.Vault.outside c.args.vault.now in
    let after = g.V.Vault.outside c.low-got.new.vault in
    let v = vector-at old before of names c.args.vector id c.sound.ensures world (vector-denoted old before names c.args.vector id c.sound.ensures d) in
    bound-back (Stands old new before after of names) c.in-Ok.low (low_of of (Vector id)) (low-int old before of names c.args.vector id v)
    (answers-low old new before after of names c.sound.ensures c.sound-2.ensures world
    (g.met.V.Vault.one c.args.vault.now) (g.met.V.Vault.one c.low-got.new.vault) c.args.vector id c.in-Ok.low v c.in-Ok.ensures.told)

pub returns-in-Err-clause-got : goal.returns-in-Err-clause-got
returns-in-Err-clause-got g c of names id world d =
    let old = c.args.sw.now in
    let before = g.V.Vault.outside c.args.vault.now in
    breaks-low old c.low-got.new.sw before (g.V.Vault.outside c.low-got.new.vault) of names c.sound.ensures c.sound-2.ensures world
    (g.met.V.Vault.one c.args.vault.now) (g.met.V.Vault.one c.low-got.new.vault) c.args.vector id c.in-Err.fault
    (vector-at old before of names c.args.vector id c.sound.ensures world
    (vector-denoted old before names c.args.vector id c.sound.ensures d)) c.in-Err.ensures.told

pub returns-in-Ok-clause-keeps : goal.returns-in-Ok-clause-keeps
returns-in-Ok-clause-keeps g c = c.in-Ok.ensures.told.1.reads.keeps
