-- What may be the root of a database.
use Rattle.std.specs.Prelude.{◌≡◌, ℕ}
use Rattle.db_dir.specs.joint_ops.obj_layout.declared.kind.Kind.TheVariants.{Table}
use Rattle.db_dir.specs.joint_ops.swizzle.Heap.{Heap, IsHeld, header_at}

-- a table of the area
pub record HoldsTable (heap : Heap) (at : ℕ) : Type 0 where
  pub held : IsHeld heap at
  pub kind : (header_at heap at).kind ≡ Table
