-- The numbers before the next one were laid out.
use Rattle.std.proofs.Common.{◌≡◌, List, length, take, replicate, vec_capacity}
use Rattle.machine_core.specs.obj_layout.declared.reference.Reference.{Reference}
use Rattle.machine_core.specs.swizzle.Heap.{Heap}
use Rattle.machine_core.specs.heap_places.Filling.{AreNear}
use Rattle.machine_core.specs.joint_ops.Operands.{AreForIn}
use Rattle.machine_vectors.specs.inside.Taking.{kept_values}
use Rattle.machine_vectors.proofs.taken.lay_nums.Given as goal

abbrev pub invariant-loop-z : goal.invariant-loop-z
invariant-loop-z g l = record {
  laid : (v : g.row.V.Denot) (here : Heap) (names : List Reference)
      → AreForIn here (g.V.Vault.outside v) names (replicate l.z-index l.form) l.values.items (kept_values l.form (take l.z-index l.words));
  near : (here : Heap) → AreNear here l.values.items;
  many : length l.values.items ≡ l.z-index;
  room : vec_capacity l.values ≡ vec_capacity l.initial.values;
}
