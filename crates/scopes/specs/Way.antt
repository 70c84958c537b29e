-- The way out of a scope: from each scope to its parent.
use Rattle.std.specs.Prelude.{◌≡◌, ◌≢◌, ◌⊎◌, ℕ, ◌<◌, List, [], ◌∷◌, length, nat_eq, nat_lt, if◌then◌else◌, Option, Some, None, Result, Ok, Err}
use Rattle.closures.specs.ps_outside.Outside.{Outside}
use Rattle.closures.specs.obj_layout.Kind.{kind_number}
use Rattle.closures.specs.obj_layout.Stored.{Space, Damage, damage}
use Rattle.closures.specs.obj_layout.declared.reference.Reference.{Reference}
use Rattle.closures.specs.obj_layout.declared.reference.Reference.TheVariants.{Nil}
use Rattle.closures.specs.swizzle.declared.fault.SwizzleFault.{SwizzleFault}
use Rattle.closures.specs.swizzle.Heap.{Heap, IsHeap, ref_at}
use Rattle.closures.specs.swizzle.Joint.{Shown, shown_at, name_at}
use Rattle.closures.specs.swizzle.Changes.{Within}
use Rattle.closures.specs.swizzle.Touch.{Denotes, Keeps, IsTouchFault}
use Rattle.closures.specs.swizzle.Reading.{joint, Reads, FailsReading}
use Rattle.closures.specs.heap_places.Shapes.{slot_of}
use Rattle.closures.specs.heap_places.Places.{NamesDamage, FailsFetch}

-- The first of these that isn't so of an object that the way goes through: it is a scope, and has two references at least.
unfoldable pub way_damage : Shown → Option Damage
way_damage it =
    if nat_eq (kind_number it.kind) 4
    then (if nat_lt (length it.refs) 2 then damage (length it.refs) 2 else None)
    else damage (kind_number it.kind) 4

-- The parent of a scope, where it has one: what its second reference denotes.
pub record HasParent (old new : Heap) (before after : Outside Space) (at : ℕ) (parent : Option ℕ) : Type 0 where
  pub sound : way_damage (shown_at old at) ≡ None
  pub denotes : Denotes new parent (slot_of (shown_at old at) 1)
  pub reads : Reads old new before after (slot_of (shown_at old at) 1 ∷ [])

-- why the parent can't be told: the object is damaged, or that of its parent couldn't be fetched
abbrev pub FailsParent : Heap → Outside Space → ℕ → SwizzleFault → Type 0
FailsParent old before at fault =
    NamesDamage old at (way_damage (shown_at old at)) fault
    ⊎ ((way_damage (shown_at old at) ≡ None) × IsTouchFault old before (ref_at old at 1) fault)

abbrev pub TellsParent : Heap → Heap → Outside Space → Outside Space → ℕ → Result (Option ℕ) SwizzleFault → Type 0
TellsParent old new before after at (Ok parent) = HasParent old new before after at parent
TellsParent old new before after at (Err fault) = FailsReading before after fault × FailsParent old before at fault

-- The object of one name is a scope, and the other is the name of its parent.
pub record IsParent (seen : Reference → Shown → Type 0) (name parent : Reference) : Type 0 where
  pub it : Shown
  pub there : seen name it
  pub sound : way_damage it ≡ None
  pub parent_is : slot_of it 1 ≡ parent
  pub some : parent ≢ Nil

-- from a scope of one name the way leads out over these, each the parent of the one before it
abbrev pub LeadsOver : (Reference → Shown → Type 0) → Reference → List Reference → Type 0
LeadsOver seen name [] = Unit {0}
LeadsOver seen name (parent ∷ parents) = IsParent seen name parent × LeadsOver seen parent parents

-- the last of them, or the one at which the way begins
abbrev pub end_of : Reference → List Reference → Reference
end_of name [] = name
end_of name (parent ∷ parents) = end_of parent parents

-- From a scope the way leads so many levels out, to this one.
pub record LeadsOut (old new : Heap) (before after : Outside Space) (scope up at : ℕ) : Type 0 where
  pub parents : List Reference
  pub levels : length parents ≡ up
  pub way : LeadsOver (joint new after) (name_at old scope) parents
  pub denotes : Denotes new (Some at) (end_of (name_at old scope) parents)
  pub reads : Reads old new before after parents

-- Why the way leads no further: some scope on it, fewer levels out than were asked for, is damaged, lacks a parent, or its parent couldn't be
-- fetched.
pub record EndsEarly (old : Heap) (before : Outside Space) (scope up : ℕ) (fault : SwizzleFault) : Type 0 where
  pub mid : Heap
  pub heap : IsHeap mid
  pub keeps : Keeps old mid
  pub grows : Within (joint old before) (joint mid before)
  pub parents : List Reference
  pub at : ℕ
  pub levels : length parents < up
  pub way : LeadsOver (joint mid before) (name_at old scope) parents
  pub denotes : Denotes mid (Some at) (end_of (name_at old scope) parents)
  pub why : NamesDamage mid at (way_damage (shown_at mid at)) fault
      ⊎ ((way_damage (shown_at mid at) ≡ None) × (slot_of (shown_at mid at) 1 ≡ Nil) × NamesDamage mid at (damage 0 1) fault)
      ⊎ ((way_damage (shown_at mid at) ≡ None) × FailsFetch mid before (slot_of (shown_at mid at) 1) fault)

-- The scope so many levels out, 0 for itself.
abbrev pub GoesOut : Heap → Heap → Outside Space → Outside Space → ℕ → ℕ → Result ℕ SwizzleFault → Type 0
GoesOut old new before after scope up (Ok at) = LeadsOut old new before after scope up at
GoesOut old new before after scope up (Err fault) = FailsReading before after fault × EndsEarly old before scope up fault
