-- Area and vault together as the meaning sees them: a heap under a row of names, whatever the residence of its objects.
use Rattle.std.specs.Prelude.{◌≡◌, ◌≢◌, ℕ, true, ◌+◌, ◌<◌, ◌≤◌, List, length, Option, Some, None, Result, Ok, Err}
use Rattle.heap_meaning.specs.ps_base.CodeUnit.{UnitView}
use Rattle.heap_meaning.specs.ps_outside.Outside.{Outside, Rose}
use Rattle.heap_meaning.specs.obj_layout.Stored.{Space}
use Rattle.heap_meaning.specs.obj_layout.declared.reference.Reference as reference
use Rattle.heap_meaning.specs.obj_layout.declared.vault.VaultFault.TheVariants.{Device, Output, Full, NoPages, Damaged}
use Rattle.heap_meaning.specs.text_forms.declared.forms.Form.{Form}
use Rattle.heap_meaning.specs.text_forms.declared.forms.Form.TheVariants as form
use Rattle.heap_meaning.specs.swizzle.declared.fault.SwizzleFault.{SwizzleFault}
use Rattle.heap_meaning.specs.swizzle.declared.fault.SwizzleFault.TheVariants.{AreaFull, Vault}
use Rattle.heap_meaning.specs.swizzle.Heap as area
use Rattle.heap_meaning.specs.swizzle.Heap.{IsHeap, IsHeld, top_of, local_of}
use Rattle.heap_meaning.specs.swizzle.Joint.{name_at}
use Rattle.heap_meaning.specs.swizzle.Reading.{FailsReading}
use Rattle.heap_meaning.specs.heap_texts.declared.fault.OpFault.{OpFault}
use Rattle.heap_meaning.specs.heap_texts.declared.fault.OpFault.TheVariants as op
use Rattle.heap_meaning.specs.heap_places.declared.value.Value as code
use Rattle.heap_meaning.specs.heap_places.declared.value.Value.TheVariants as held
use Rattle.heap_meaning.specs.proc_values.Loaded.{CodeStays}
use Rattle.heap_meaning.specs.ps_heap.Operators.{is_int}
use Rattle.heap_meaning.specs.ps_heap.Values.{Value}
use Rattle.heap_meaning.specs.ps_heap.Texts.{Attempt, Yields, Fails}
use Rattle.heap_meaning.specs.ps_heap.Tables.{Table}
use Rattle.heap_meaning.specs.ps_heap.Objects.{Heap, Keyed, object_at, id_of}
use Rattle.heap_meaning.specs.Units.{IsUnitSeen}
use Rattle.heap_meaning.specs.Paired.{paired, StandsRow}
use Rattle.heap_meaning.specs.Denoting.{DenotesValue, DenotesScope, IsFor}
use Rattle.joint_ops.specs.Seeing.{Gains}
use Rattle.joint_ops.specs.Writing.{IsWrite}
pub use Rattle.joint_ops.specs.Seeing.{IsClean, IsStored, seen}

-- area and vault stand for a heap of the meaning, under a row of names
pub record IsWorld (here : area.Heap) (outside : Outside Space) (of : Heap) (names : List reference.Reference) : Type 0 where
  pub row : StandsRow (seen here outside) of names

-- an object of the area, or none, denotes a value
abbrev pub DenotesIn : area.Heap → Outside Space → List reference.Reference → Option ℕ → Value → Type 0
DenotesIn here outside names to v = DenotesValue here (seen here outside) (paired names) to v

-- an object of the area, or none, denotes a scope, or none
abbrev pub DenotesScopeIn : area.Heap → Outside Space → List reference.Reference → Option ℕ → Option ℕ → Type 0
DenotesScopeIn here outside names to scope = DenotesScope here (seen here outside) (paired names) to scope

-- The code object of a unit lies in the area, wherever the objects of its constants lie.
pub record IsUnitIn (here : area.Heap) (outside : Outside Space) (code : ℕ) (u : UnitView) : Type 0 where
  pub held : IsHeld here code
  pub is : IsUnitSeen (seen here outside) (name_at here code) u

-- a value in code denotes one of the meaning
abbrev pub IsForIn : area.Heap → Outside Space → List reference.Reference → code.Value → Value → Type 0
IsForIn here outside names c v = IsFor here (seen here outside) (paired names) c v

-- a value in code is one that a place of this form holds
abbrev pub IsOfForm : Form → code.Value → Type 0
IsOfForm form.Number (held.Num z) = is_int z ≡ true
IsOfForm form.Flag (held.Flag b) = Unit {0}
IsOfForm form.Reference (held.Ref to) = Unit {0}
IsOfForm _ _ = ⊥

module _ (old new : area.Heap) (before after : Outside Space) where
  -- What denoted a value or a scope, or was the code object of a unit, is so still, and texts and code of the area stay where they are.
  pub record Carries (names more : List reference.Reference) : Type 0 where
    pub values : (to : Option ℕ) (v : Value) → DenotesIn old before names to v → DenotesIn new after more to v
    pub scopes : (to scope : Option ℕ) → DenotesScopeIn old before names to scope → DenotesScopeIn new after more to scope
    pub units : (code : ℕ) (u : UnitView) → IsUnitIn old before code u → IsUnitIn new after code u
    pub code : CodeStays old new
    pub size : new.size ≡ old.size
    pub top : top_of old ≤ top_of new

  -- area and vault stand for this heap now, under the same names
  pub record Carried (of : Heap) (names : List reference.Reference) : Type 0 where
    pub world : IsWorld new after of names
    pub carries : Carries names names

  -- and the area did no more than gain objects
  pub record Stands (of : Heap) (names : List reference.Reference) : Type 0 where
    pub world : IsWorld new after of names
    pub carries : Carries names names
    pub gains : Gains old new before after

  -- After a reading the object of this id was written, for which the heap has another one now, that is no table; all others stay.
  pub record Rewritten (id : ℕ) (of later : Heap) (names : List reference.Reference) : Type 0 where
    pub mid : area.Heap
    pub gains : Gains old mid before after
    pub x : ℕ
    pub write : IsWrite mid new x
    pub sound : IsHeap new
    pub named : paired names (name_at mid x) id
    pub others : (i : ℕ) → i ≢ id → object_at later i ≡ object_at of i
    pub plain : (table : Table) → object_at later id ≡ Some (Keyed table) → ⊥
    pub world : IsWorld new after later names
    pub carries : Carries names names

  -- An object that the vault holds, and that isn't in the area.
  pub record IsAway (pid : ℕ) : Type 0 where
    pub words : List ℕ
    pub stored : IsStored before pid words
    pub away : local_of old pid ≡ None

  -- Why an operation broke off: the device failed, or there was no room for an object that was to be fetched. Nothing is damaged.
  abbrev pub BreaksOff : SwizzleFault → Type 0
  BreaksOff (AreaFull top wanted size) =
      (top_of old ≤ top) × (size ≡ old.size) × (size < top + wanted) × ((pid : ℕ) × (a : IsAway pid) × (length a.words ≡ wanted))
  BreaksOff (Vault Device) = Rose before.device_faults after.device_faults
  BreaksOff (Vault Output) = ⊥
  BreaksOff (Vault (Full used wanted capacity)) = ⊥
  BreaksOff (Vault (NoPages held wanted pages)) = ⊥
  BreaksOff (Vault (Damaged at found wanted)) = ⊥

  -- An operation that reads: it gives what stands for what the meaning's yields, or ends in its trap, or broke off.
  abbrev pub Answers : {A T : Type 0} → (T → A → Type 0) → Heap → List reference.Reference → Attempt A → Result T OpFault → Type 0
  Answers is of names attempt (Ok given) = (a : _) × (attempt ≡ Yields a) × is given a × Stands of names
  Answers is of names attempt (Err (op.Trap t)) = (attempt ≡ Fails t) × Stands of names
  Answers is of names attempt (Err (op.Swizzle fault)) = BreaksOff fault

  -- An operation that writes a place of what a value denotes: area and vault stand for the heap that the meaning's yields, or it ends in its trap, or broke off.
  abbrev pub Writes : Value → Heap → List reference.Reference → Attempt Heap → Result (Unit {0}) OpFault → Type 0
  Writes operand of names attempt (Ok done) = (later : Heap) × (attempt ≡ Yields later) × Rewritten (id_of operand) of later names
  Writes operand of names attempt (Err (op.Trap t)) = (attempt ≡ Fails t) × Stands of names
  Writes operand of names attempt (Err (op.Swizzle fault)) = BreaksOff fault

-- An operation that broke off failed as a reading does, whatever is known of the vault: it named the device only where that failed, and never
-- the output, nor that the vault is full.
abbrev pub BreaksAsReading : {T : Type 0} → Outside Space → Outside Space → Result T OpFault → Type 0
BreaksAsReading before after (Ok given) = Unit {0}
BreaksAsReading before after (Err (op.Trap t)) = Unit {0}
BreaksAsReading before after (Err (op.Swizzle fault)) = FailsReading before after fault

abbrev pub FailsAsReading : {T : Type 0} → Outside Space → Outside Space → Result T SwizzleFault → Type 0
FailsAsReading before after (Ok given) = Unit {0}
FailsAsReading before after (Err fault) = FailsReading before after fault
