-- Objects as a vault has them.
use Rattle.std.specs.Prelude.{◌≡◌, ℕ, ◌≤◌, map, get_or}
use Rattle.obj_layout.specs.declared.header.Header.{Header}
use Rattle.obj_layout.specs.declared.reference.Reference.TheVariants.{Nil, Local}
use Rattle.swizzle.specs.Objects.{Object}
use Rattle.swizzle.specs.Heap.{Heap, object_at, header_at}
use Rattle.swizzle.specs.Joint.{name_of}

-- without flags, PID and link
abbrev pub far_header_of : Header → Header
far_header_of header = record header { flags = 0; pid = 0; chain = 0 }

-- the object with names for its references
abbrev pub far_object : Heap → ℕ → Object
far_object heap at = record (object_at heap at) { header = far_header_of (header_at heap at); refs = map (name_of heap) (object_at heap at).refs }

-- each object of the area that this one refers to has a PID
abbrev pub HasPids : Heap → ℕ → Type 0
HasPids heap at = (slot to : ℕ) → get_or (object_at heap at).refs slot Nil ≡ Local to → 1 ≤ (header_at heap to).pid
