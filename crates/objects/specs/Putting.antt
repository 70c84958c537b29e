-- Values that are put into fields, and which objects are noted as assigned then.
use Rattle.std.specs.Prelude.{◌≡◌, ℕ, ◌+◌, List, [], ◌∷◌, ◌++◌, Option, Some, None, Result, Ok, Err, if◌then◌else◌}
use Rattle.ps_base.specs.CodeUnit.{ConstantsView, unit, text}
use Rattle.ps_base.specs.declared.code_unit.Frame.{Frame}
use Rattle.joint_ops.specs.ps_outside.Outside.{Outside}
use Rattle.joint_ops.specs.obj_layout.Stored.{Space}
use Rattle.joint_ops.specs.swizzle.Heap as area
use Rattle.joint_ops.specs.swizzle.Heap.{IsHeld, object_at, is_assigned}
use Rattle.joint_ops.specs.proc_values.Loaded.{constant_numbered}
use Rattle.joint_ops.specs.text_forms.declared.forms.Form.{Form}
use Rattle.joint_ops.specs.text_forms.declared.forms.Form.TheVariants as form
use Rattle.joint_ops.specs.text_forms.declared.forms.Located.{Located}
use Rattle.joint_ops.specs.text_forms.Forms.{forms_of, located_in}
use Rattle.joint_ops.specs.heap_texts.declared.fault.OpFault.{OpFault}
use Rattle.joint_ops.specs.heap_texts.declared.fault.OpFault.TheVariants as op
use Rattle.joint_ops.specs.heap_places.declared.value.Value as given
use Rattle.joint_ops.specs.heap_places.declared.value.Value.TheVariants as held
use Rattle.joint_ops.specs.ps_heap.Values.{is_one, number_of}
use Rattle.joint_ops.specs.World.{IsUnitIn, IsOfForm}
use Rattle.objects.specs.declared.known_fields.KnownField.{KnownField}
use Rattle.objects.specs.declared.objects.fields.Put.{Put}
use Rattle.objects.specs.Fields.{IsReached}

-- the value belongs into the row of places of this form: a reference, or an int or a bool
abbrev pub IsOfRow : Form → given.Value → Type 0
IsOfRow form.Reference (held.Ref to) = Unit {0}
IsOfRow form.Reference _ = ⊥
IsOfRow _ (held.Ref to) = ⊥
IsOfRow _ _ = Unit {0}

-- the value as a place of this form keeps it: an int as a bool, and a bool as an int
abbrev pub kept_in : Form → given.Value → given.Value
kept_in form.Number (held.Flag b) = held.Num (number_of b)
kept_in form.Flag (held.Num z) = held.Flag (is_one z)
kept_in _ value = value

-- The code object is of a unit that has no class with a field of this number as its constant, or the value doesn't belong into the field's row.
pub record LacksPlace (here : area.Heap) (outside : Outside Space) (code constant field : ℕ) (value : given.Value) : Type 0 where
  pub bytes : List ℕ
  pub row : ConstantsView
  pub frame : Frame
  pub unit_is : IsUnitIn here outside code (unit bytes row frame)
  pub none : (class : List ℕ) (located : Located) → constant_numbered row constant ≡ Some (text class)
      → located_in (forms_of class) field ≡ Some located → IsOfRow located.place.form value → ⊥

-- the objects that are noted as assigned, and this one
abbrev pub noted_in : area.Heap → ℕ → List ℕ
noted_in heap at = if is_assigned (object_at heap at) then heap.assigned else heap.assigned ++ at ∷ []

-- What was written to is noted as assigned; a trap notes nothing.
abbrev pub NotesWritten : area.Heap → area.Heap → Option ℕ → Result (Unit {0}) OpFault → Type 0
NotesWritten old new None (Ok done) = ⊥
NotesWritten old new (Some at) (Ok done) = new.assigned ≡ noted_in old at
NotesWritten old new object (Err (op.Trap t)) = new.assigned ≡ old.assigned
NotesWritten old new object (Err (op.Swizzle fault)) = Unit {0}

-- A value is put into a field that is reached by what is known of it, as the field keeps it.
pub record IsPut (here : area.Heap) (code constant field : ℕ) (object : Option ℕ) (value : given.Value) (put : Put) : Type 0 where
  pub object_is : object ≡ Some put.object
  pub there : IsHeld here put.object
  pub known : KnownField
  pub reached : IsReached here code constant field put.object known
  pub index_is : put.index ≡ known.located.place.index + 1
  pub row : IsOfRow known.located.place.form value
  pub value_is : put.value ≡ kept_in known.located.place.form value
  pub formed : IsOfForm known.located.place.form put.value
