-- Closures: the code and the scope of one.
use Rattle.std.specs.Prelude.{◌≡◌, ◌≢◌, ◌⊎◌, ℕ, [], ◌∷◌, Option, Some, None, Result, Ok, Err}
use Rattle.heap_places.specs.ps_outside.Outside.{Outside}
use Rattle.heap_places.specs.obj_layout.Kind.{kind_number}
use Rattle.heap_places.specs.obj_layout.Stored.{Space, Damage, damage}
use Rattle.heap_places.specs.obj_layout.declared.kind.Kind.{Kind}
use Rattle.heap_places.specs.obj_layout.declared.kind.Kind.TheVariants.{Scope, Closure, Code}
use Rattle.heap_places.specs.obj_layout.declared.reference.Reference.TheVariants.{Nil, Local}
use Rattle.heap_places.specs.obj_layout.declared.vault.VaultFault.TheVariants.{Damaged}
use Rattle.heap_places.specs.swizzle.declared.fault.SwizzleFault.{SwizzleFault}
use Rattle.heap_places.specs.swizzle.declared.fault.SwizzleFault.TheVariants.{Vault}
use Rattle.heap_places.specs.swizzle.Objects.{Object}
use Rattle.heap_places.specs.swizzle.Heap.{Heap, IsHeld, header_at, ref_at, reference_to, blank}
use Rattle.heap_places.specs.swizzle.Joint.{Shown, shown_at}
use Rattle.heap_places.specs.swizzle.Touch.{Denotes, Keeps, IsTouchFault}
use Rattle.heap_places.specs.swizzle.Changes.{Within}
use Rattle.heap_places.specs.swizzle.Reading.{joint, Reads, FailsReading}
use Rattle.heap_places.specs.Shapes.{slot_of, shape_damage}
use Rattle.heap_places.specs.Places.{NamesDamage}

-- a new closure of a code object, and of a scope where there is one
unfoldable pub closure_of : ℕ → Option ℕ → Object
closure_of code scope = record (blank Closure 2 1 0) { refs = Local code ∷ reference_to scope ∷ [] }

-- A closure has two references, the code and the scope, and one number word, its home.
abbrev pub closure_damage : Shown → Option Damage
closure_damage it = shape_damage it Closure 2 1

-- The slot of a closure was touched: it denotes this object, which is of this kind.
pub record IsPart (old new : Heap) (before after : Outside Space) (at slot part : ℕ) (kind : Kind) : Type 0 where
  pub shape : closure_damage (shown_at old at) ≡ None
  pub held : IsHeld new part
  pub kind_is : (header_at new part).kind ≡ kind
  pub denotes : Denotes new (Some part) (slot_of (shown_at old at) slot)
  pub reads : Reads old new before after (slot_of (shown_at old at) slot ∷ [])

-- The slot of a closure is nil.
pub record IsNilSlot (old new : Heap) (before after : Outside Space) (at slot : ℕ) : Type 0 where
  pub shape : closure_damage (shown_at old at) ≡ None
  pub none : slot_of (shown_at old at) slot ≡ Nil
  pub stays : new ≡ old
  pub reads : Reads old new before after (slot_of (shown_at old at) slot ∷ [])

-- the slot of a closure denotes an object of another kind, which is damaged so
abbrev pub IsOther : Heap → Heap → Outside Space → Outside Space → ℕ → ℕ → Kind → SwizzleFault → Type 0
IsOther old new before after at slot kind fault =
    (other : ℕ) × Denotes new (Some other) (slot_of (shown_at old at) slot) × ((header_at new other).kind ≢ kind) × Keeps old new
    × Within (joint old before) (joint new after)
    × (fault ≡ Vault (Damaged (header_at new other).pid (kind_number (header_at new other).kind) (kind_number kind)))

-- Why a slot of an object gave nothing: the object is no closure, or the slot denotes an object of another kind, or its object couldn't be
-- fetched.
abbrev pub FailsPart : Heap → Heap → Outside Space → Outside Space → ℕ → ℕ → Kind → SwizzleFault → Type 0
FailsPart old new before after at slot kind fault =
    NamesDamage old at (closure_damage (shown_at old at)) fault
    ⊎ ((closure_damage (shown_at old at) ≡ None) × (IsOther old new before after at slot kind fault ⊎ IsTouchFault old before (ref_at old at slot) fault))

-- a closure whose code is nil is damaged
abbrev pub HasNoCode : Heap → ℕ → SwizzleFault → Type 0
HasNoCode old at fault =
    (closure_damage (shown_at old at) ≡ None) × (slot_of (shown_at old at) 0 ≡ Nil) × NamesDamage old at (damage 0 1) fault

-- The code object of a closure.
abbrev pub TellsCode : Heap → Heap → Outside Space → Outside Space → ℕ → Result ℕ SwizzleFault → Type 0
TellsCode old new before after at (Ok code) = IsPart old new before after at 0 code Code
TellsCode old new before after at (Err fault) = FailsReading before after fault × (FailsPart old new before after at 0 Code fault ⊎ HasNoCode old at fault)

-- The scope of a closure, where it has one.
abbrev pub TellsScope : Heap → Heap → Outside Space → Outside Space → ℕ → Result (Option ℕ) SwizzleFault → Type 0
TellsScope old new before after at (Ok (Some scope)) = IsPart old new before after at 1 scope Scope
TellsScope old new before after at (Ok None) = IsNilSlot old new before after at 1
TellsScope old new before after at (Err fault) = FailsReading before after fault × FailsPart old new before after at 1 Scope fault
