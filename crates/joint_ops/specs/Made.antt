-- New objects, and new texts, beside a vault that stays as it is.
use Rattle.std.specs.Prelude.{◌≡◌, ◌⊎◌, ℕ, ◌+◌, ◌-◌, ◌*◌, ◌^◌, ◌<◌, ◌≤◌, List, Some, Result, Ok, Err}
use Rattle.heap_meaning.specs.ps_outside.Outside.{Outside}
use Rattle.heap_meaning.specs.obj_layout.Stored.{Space}
use Rattle.heap_meaning.specs.obj_layout.declared.reference.Reference as reference
use Rattle.heap_meaning.specs.swizzle.Heap as area
use Rattle.heap_meaning.specs.swizzle.Heap.{IsHeld, header_at, top_of}
use Rattle.heap_meaning.specs.swizzle.Joint.{name_at}
use Rattle.heap_meaning.specs.swizzle.declared.fault.SwizzleFault.{SwizzleFault}
use Rattle.heap_meaning.specs.swizzle.declared.fault.SwizzleFault.TheVariants.{AreaFull}
use Rattle.heap_meaning.specs.heap_texts.declared.fault.OpFault.{OpFault}
use Rattle.heap_meaning.specs.heap_texts.declared.fault.OpFault.TheVariants as op
use Rattle.heap_meaning.specs.ps_heap.Values.{Value, Text}
use Rattle.heap_meaning.specs.ps_heap.Texts.{Attempt, Yields, Fails}
use Rattle.heap_meaning.specs.ps_heap.Tables.{without_keys}
use Rattle.heap_meaning.specs.ps_heap.Objects.{Heap, Object, Keyed, with_new, new_number}
use Rattle.heap_meaning.specs.ps_heap.Weights.{own_weight, text_weight}
use Rattle.heap_meaning.specs.Paired.{and_name}
use Rattle.joint_ops.specs.Seeing.{Gains}
use Rattle.joint_ops.specs.World.{IsWorld, DenotesIn, Carries, Stands}

-- An object of so many bytes has so many words; where they are more than the greatest number of 32 bits, that one stands for them.
abbrev pub AreWords : ℕ → ℕ → Type 0
AreWords wanted weight = (8 * wanted ≡ weight) ⊎ ((wanted ≡ 2 ^ 32 - 1) × (8 * wanted ≤ weight))

-- there was no room for an object of so many bytes, with the words that it has, and the area stays
pub record IsShort (old new : area.Heap) (weight : ℕ) (fault : SwizzleFault) : Type 0 where
  pub wanted : ℕ
  pub fault_is : fault ≡ AreaFull (top_of old) wanted old.size
  pub full : old.size < top_of old + wanted
  pub words : AreWords wanted weight
  pub stays : new ≡ old

-- a new object of the heap: a table has no keys yet
abbrev pub IsFresh : Object → Type 0
IsFresh (Keyed without_keys) = Unit {0}
IsFresh (Keyed table) = ⊥
IsFresh object = Unit {0}

module _ (old new : area.Heap) (outside : Outside Space) where
  -- A new object, which isn't stored: the heap has one more, and its name is the last of the row.
  pub record IsNew (of : Heap) (names : List reference.Reference) (denoting : ℕ → Value) (object : Object) (at : ℕ) : Type 0 where
    pub held : IsHeld new at
    pub unstored : (header_at new at).pid ≡ 0
    pub fresh : IsFresh object
    pub world : IsWorld new outside (with_new of object) (and_name names (name_at new at))
    pub carries : Carries old new outside outside names (and_name names (name_at new at))
    pub gains : Gains old new outside outside
    pub top : 8 * top_of new ≡ 8 * top_of old + own_weight object
    pub denotes : DenotesIn new outside (and_name names (name_at new at)) (Some at) (denoting (new_number of))

  -- An operation that makes an object: that of the meaning's, or its trap, or there was no room for it.
  abbrev pub Makes : Heap → List reference.Reference → (ℕ → Value) → Attempt Object → Result ℕ OpFault → Type 0
  Makes of names denoting attempt (Ok at) = (object : Object) × (attempt ≡ Yields object) × IsNew of names denoting object at
  Makes of names denoting attempt (Err (op.Trap t)) = (attempt ≡ Fails t) × Stands old new outside outside of names
  Makes of names denoting attempt (Err (op.Swizzle fault)) = (object : Object) × (attempt ≡ Yields object) × IsShort old new (own_weight object) fault

  -- a new text
  pub record IsNewText (of : Heap) (names : List reference.Reference) (bytes : List ℕ) (at : ℕ) : Type 0 where
    pub stands : Stands old new outside outside of names
    pub top : 8 * top_of new ≡ 8 * top_of old + text_weight bytes
    pub denotes : DenotesIn new outside names (Some at) (Text bytes)

  abbrev pub MakesText : Heap → List reference.Reference → Attempt (List ℕ) → Result ℕ OpFault → Type 0
  MakesText of names attempt (Ok at) = (bytes : List ℕ) × (attempt ≡ Yields bytes) × IsNewText of names bytes at
  MakesText of names attempt (Err (op.Trap t)) = (attempt ≡ Fails t) × Stands old new outside outside of names
  MakesText of names attempt (Err (op.Swizzle fault)) = (bytes : List ℕ) × (attempt ≡ Yields bytes) × IsShort old new (text_weight bytes) fault

-- An operation that makes an object broke off only for want of room, whatever is known of the vault: the fault has the area's numbers, and the
-- area stays.
pub record LacksRoom (old new : area.Heap) (fault : SwizzleFault) : Type 0 where
  pub wanted : ℕ
  pub fault_is : fault ≡ AreaFull (top_of old) wanted old.size
  pub full : old.size < top_of old + wanted
  pub stays : new ≡ old

abbrev pub BreaksAsMaking : {T : Type 0} → area.Heap → area.Heap → Result T OpFault → Type 0
BreaksAsMaking old new (Ok made) = Unit {0}
BreaksAsMaking old new (Err (op.Trap t)) = Unit {0}
BreaksAsMaking old new (Err (op.Swizzle fault)) = LacksRoom old new fault

abbrev pub FailsAsMaking : {T : Type 0} → area.Heap → area.Heap → Result T SwizzleFault → Type 0
FailsAsMaking old new (Ok made) = Unit {0}
FailsAsMaking old new (Err fault) = LacksRoom old new fault
