-- What a machine stands for beside a vault that outputs: it holds what it held.
use Rattle.std.proofs.Common.{inl, inr, refl}
use Rattle.machine_core.specs.ps_outside.Outside.{Outside, SameContents}
use Rattle.machine_core.specs.obj_layout.Stored.{Space}
use Rattle.machine_core.specs.swizzle.Heap as area
use Rattle.machine_core.specs.swizzle.Heap.{IsHeap}
use Rattle.machine_core.specs.swizzle.Changes.{Within}
use Rattle.machine_core.specs.joint_ops.Seeing.{Gains}
use Rattle.machine_core.specs.joint_ops.World.{seen}
use Rattle.machine_core.specs.ps_stepping.Config.{Config}
use Rattle.machine_core.specs.declared.machine.Machine.{Machine}
use Rattle.machine_core.specs.Holding.{Holds, words_of}
use Rattle.machine_core.proofs.of_swizzle.TouchLaws.{keeps-refl}
use Rattle.machine_core.proofs.of_joint_ops.SeenLaws.{stored-stays, keeps-carries}
use Rattle.machine_core.proofs.Carrying.{held-more}
use Rattle.machine_core.proofs.RunLaws.{run-gained}

put-within : (here : area.Heap) (before after : Outside Space) → SameContents before after → Within (seen here before) (seen here after)
put-within here before after same n it (inl a) = inl a
put-within here before after same n it (inr v) =
    inr (record {
      pid = v.pid;
      words = v.words;
      name_is = v.name_is;
      there = stored-stays before after v.pid v.words same v.there;
      away = v.away;
      shown_is = v.shown_is;
    })

-- the area gains nothing
put-gains : (here : area.Heap) (before after : Outside Space) → IsHeap here → SameContents before after → Gains here here before after
put-gains here before after sound same = record {
  was_sound = sound;
  sound = sound;
  keeps = keeps-refl here;
  grows = put-within here before after same;
  came = λ x held. inl held;
  contents = same;
}

pub put-holds : (m : Machine) (before after : Outside Space) (c : Config) → IsHeap m.objects → SameContents before after → Holds before m c → Holds after m c
put-holds m before after c sound same h =
    let here = m.objects in
    let w = words_of m in
    let run = run-gained h.names w.writing w.asked w.directory c.store.held here here before after (put-gains here before after sound same) h.held.run in
    record {
      names = h.names;
      held = held-more here here before after h.names h.names w c c.store
          (keeps-carries here here before after h.names h.names (keeps-refl here) (put-within here before after same) (λ n id p. p)) h.held run refl refl;
    }
