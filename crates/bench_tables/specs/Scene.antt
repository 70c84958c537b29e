-- A table, a value and a text that is sought, in the area.
use Rattle.std.specs.Prelude.{◌≡◌, ◌≤◌}
use Rattle.table_lib.specs.heap_places.obj_layout.declared.kind.Kind.TheVariants.{Text}
use Rattle.table_lib.specs.heap_places.swizzle.Heap.{IsHeld, header_at}
use Rattle.bench_tables.specs.declared.scene.Scene.{Scene}

pub record IsSet (scene : Scene) : Type 0 where
  pub table : IsHeld scene.sw scene.table
  pub value : IsHeld scene.sw scene.value
  pub sought : IsHeld scene.sw scene.sought
  pub kind : (header_at scene.sw scene.sought).kind ≡ Text
  pub long : 8 ≤ (header_at scene.sw scene.sought).bytes
