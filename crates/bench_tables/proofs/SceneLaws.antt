-- A scene after a call on its table.
use Rattle.std.proofs.Common.{◌≡◌, ℕ, ◌≤◌, ap, sym, ◌∙◌, subst, inl, inr}
use Rattle.table_lib.specs.heap_places.ps_outside.Outside.{Outside}
use Rattle.table_lib.specs.heap_places.obj_layout.Stored.{Space}
use Rattle.table_lib.specs.heap_places.swizzle.Heap.{Heap, header_at}
use Rattle.table_lib.specs.heap_places.swizzle.Joint.{Shown}
use Rattle.table_lib.specs.Entries.{SparesBut}
use Rattle.bench_tables.specs.Scene.{IsSet}
use Rattle.bench_tables.specs.declared.scene.Scene.{Scene}

-- A call on the table that writes nodes and the table alone leaves the scene set, where the text that is sought isn't the table.
pub set_spared : (scene : Scene) (new : Heap) (before after : Outside Space) → IsSet scene → SparesBut scene.table scene.sw new before after → (scene.sought ≡ scene.table → ⊥)
    → IsSet (record { sw = new; table = scene.table; value = scene.value; sought = scene.sought })
set_spared scene new before after set spares apart =
    let sought = spares.lasts scene.sought set.sought in
    let bytes : (header_at new scene.sought).bytes ≡ (header_at scene.sw scene.sought).bytes = elim (spares.kept scene.sought set.sought) [
      | inl same ↦ ap (λ (it : Shown). it.bytes) same
      | inr seen ↦ elim seen.0 [ inl same ↦ absurd (apart same) | inr node ↦ absurd (cc (node.kind, sought.kind, set.kind)) ]
    ] in
    record {
      table = (spares.lasts scene.table set.table).held;
      value = (spares.lasts scene.value set.value).held;
      sought = sought.held;
      kind = sought.kind ∙ set.kind;
      long = subst (λ (n : ℕ). 8 ≤ n) (sym bytes) set.long;
    }
