-- What is read of a code object.
use Rattle.std.specs.Prelude.{◌≡◌, ◌≢◌, ◌⊎◌, ℕ, ◌+◌, ◌<◌, List, [], ◌∷◌, drop, ◌++◌, Option, Some, None, Result, Ok, Err}
use Rattle.ps_base.specs.declared.instr.Instr.{Instr}
use Rattle.ps_base.specs.Instr.{IsInstr, spelling, width_of}
use Rattle.heap_texts.specs.ps_outside.Outside.{Outside}
use Rattle.heap_texts.specs.obj_layout.Stored.{Space}
use Rattle.heap_texts.specs.obj_layout.declared.kind.Kind.TheVariants.{Code}
use Rattle.heap_texts.specs.obj_layout.declared.reference.Reference.TheVariants.{Nil}
use Rattle.heap_texts.specs.obj_layout.declared.vault.VaultFault.TheVariants.{Damaged}
use Rattle.heap_texts.specs.swizzle.declared.fault.SwizzleFault.{SwizzleFault}
use Rattle.heap_texts.specs.swizzle.declared.fault.SwizzleFault.TheVariants.{Vault}
use Rattle.heap_texts.specs.swizzle.Heap.{Heap, IsHeld, header_at, ref_at}
use Rattle.heap_texts.specs.swizzle.Joint.{name_of}
use Rattle.heap_texts.specs.swizzle.Text.{text_at}
use Rattle.heap_texts.specs.swizzle.Touch.{Denotes, IsTouchFault}
use Rattle.heap_texts.specs.swizzle.Reading.{Reads, FailsReading}
use Rattle.proc_values.specs.declared.reading.CodePlace.{CodePlace}

-- it is a code object, and has this constant, which isn't nil
pub record HasConstant (heap : Heap) (code index : ℕ) : Type 0 where
  pub kind : (header_at heap code).kind ≡ Code
  pub below : index < (header_at heap code).refs
  pub some : ref_at heap code index ≢ Nil

-- the object is damaged: the fault names its PID
abbrev pub IsDamaged : Heap → ℕ → SwizzleFault → Type 0
IsDamaged heap at fault = (found : ℕ) × (wanted : ℕ) × (fault ≡ Vault (Damaged (header_at heap at).pid found wanted))

-- A constant of a code object: the object that the slot of this number denotes. It is damaged exactly where it has none; else the fault is
-- that of the touch.
abbrev pub GivesConstant : Heap → Heap → Outside Space → Outside Space → ℕ → ℕ → Result ℕ SwizzleFault → Type 0
GivesConstant old new before after code index (Ok at) =
    HasConstant old code index
    × Denotes new (Some at) (name_of old (ref_at old code index))
    × Reads old new before after (name_of old (ref_at old code index) ∷ [])
GivesConstant old new before after code index (Err fault) =
    ((HasConstant old code index → ⊥) × IsDamaged old code fault × (new ≡ old))
    ⊎ (HasConstant old code index × IsTouchFault old before (ref_at old code index) fault × FailsReading before after fault)

-- This instruction is spelled at an offset of the code, and ends before that one.
pub record IsSpelled (code : List ℕ) (at : ℕ) (i : Instr) (next : ℕ) : Type 0 where
  pub is_instr : IsInstr i
  pub rest : List ℕ
  pub spelled : drop at code ≡ spelling i ++ rest
  pub next_is : next ≡ at + width_of i

-- the instruction that is spelled at an offset of the code, and the offset after it; or none is
abbrev pub IsInstrIn : List ℕ → ℕ → Option (Instr × ℕ) → Type 0
IsInstrIn code at None = (i : Instr) (next : ℕ) → IsSpelled code at i next → ⊥
IsInstrIn code at (Some found) = IsSpelled code at found.0 found.1

-- The bytes of the code object that begins there lie after its header, its references, its home and its frame, and are as many as the header says.
pub record IsPlaceOf (heap : Heap) (code : ℕ) (place : CodePlace) : Type 0 where
  pub held : IsHeld heap code
  pub kind : (header_at heap code).kind ≡ Code
  pub first_is : place.first ≡ code + 6 + (header_at heap code).refs
  pub count_is : place.count ≡ (header_at heap code).bytes

-- The instruction at an offset of a code object, and the offset after it. It is damaged exactly where it is no code object or none is
-- spelled there.
abbrev pub GivesInstr : Heap → ℕ → ℕ → Result (Instr × ℕ) SwizzleFault → Type 0
GivesInstr heap code at (Ok found) = ((header_at heap code).kind ≡ Code) × IsSpelled (text_at heap code) at found.0 found.1
GivesInstr heap code at (Err fault) =
    IsDamaged heap code fault × ((header_at heap code).kind ≡ Code → (i : Instr) (next : ℕ) → IsSpelled (text_at heap code) at i next → ⊥)
