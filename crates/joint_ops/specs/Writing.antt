-- An object of the area is written: a field, an element or a kept name gets a value.
use Rattle.std.specs.Prelude.{◌≡◌, ◌≢◌, ◌⊎◌, ℕ, ◌≤◌}
use Rattle.heap_meaning.specs.obj_layout.declared.kind.Kind.{Kind}
use Rattle.heap_meaning.specs.obj_layout.declared.kind.Kind.TheVariants as kind
use Rattle.heap_meaning.specs.swizzle.Heap.{Heap, IsHeld, IsListed, object_at, header_at, num_at}
use Rattle.heap_meaning.specs.heap_places.declared.value.Value as code
use Rattle.heap_meaning.specs.heap_places.declared.value.Value.TheVariants as value

-- kinds of objects with fields, elements or kept names
abbrev pub HasParts : Kind → Type 0
HasParts kind.Structure = Unit {0}
HasParts kind.Vector = Unit {0}
HasParts kind.Scope = Unit {0}
HasParts _ = ⊥

-- One object of the area was written: it has its kind, its counts, its PID and its home still, and is noted as assigned. All others stay as they are.
pub record IsWrite (old new : Heap) (x : ℕ) : Type 0 where
  pub held : IsHeld old x
  pub parts : HasParts (header_at old x).kind
  pub stand : (y : ℕ) → IsHeld old y → IsHeld new y
  pub back : (y : ℕ) → IsHeld new y → IsHeld old y
  pub others : (y : ℕ) → y ≢ x → object_at new y ≡ object_at old y
  pub kind : (header_at new x).kind ≡ (header_at old x).kind
  pub refs : (header_at new x).refs ≡ (header_at old x).refs
  pub nums : (header_at new x).nums ≡ (header_at old x).nums
  pub bytes : (header_at new x).bytes ≡ (header_at old x).bytes
  pub pid : (header_at new x).pid ≡ (header_at old x).pid
  pub home : num_at new x 0 ≡ num_at old x 0
  pub noted : IsListed x new.assigned
  pub kept : (y : ℕ) → IsListed y old.assigned → IsListed y new.assigned
  pub only : (y : ℕ) → IsListed y new.assigned → IsListed y old.assigned ⊎ (y ≡ x)

-- the value's place lies behind the home
abbrev pub IsBehindHome : code.Value → ℕ → Type 0
IsBehindHome (value.Ref to) index = Unit {0}
IsBehindHome _ index = 1 ≤ index
