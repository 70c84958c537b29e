-- Structures: their class, and their fields.
use Rattle.std.specs.Prelude.{◌≡◌, ◌≢◌, ◌⊎◌, ℕ, suc, ◌+◌, Bool, true, false, List, [], ◌∷◌, ◌++◌, Option, Some, None, Result, Ok, Err}
use Rattle.ps_base.specs.declared.trap.Trap.{Trap}
use Rattle.ps_base.specs.declared.trap.Trap.TheVariants as trap
use Rattle.heap_places.specs.ps_outside.Outside.{Outside}
use Rattle.heap_places.specs.obj_layout.Stored.{Space, Damage}
use Rattle.heap_places.specs.obj_layout.declared.kind.Kind.TheVariants.{Structure}
use Rattle.heap_places.specs.obj_layout.declared.reference.Reference as reference
use Rattle.heap_places.specs.swizzle.declared.fault.SwizzleFault.{SwizzleFault}
use Rattle.heap_places.specs.swizzle.Heap.{Heap, IsHeap, ref_at}
use Rattle.heap_places.specs.swizzle.Joint.{Shown, shown_at}
use Rattle.heap_places.specs.swizzle.Changes.{Within}
use Rattle.heap_places.specs.swizzle.Reading.{joint, Reads, FailsReading}
use Rattle.heap_places.specs.swizzle.Touch.{Keeps, IsTouchFault}
use Rattle.heap_places.specs.text_forms.declared.forms.Form.{Form}
use Rattle.heap_places.specs.text_forms.declared.forms.Form.TheVariants.{Reference}
use Rattle.heap_places.specs.text_forms.declared.forms.Rows.{Rows}
use Rattle.heap_places.specs.text_forms.declared.forms.Located.{Located}
use Rattle.heap_places.specs.text_forms.Forms.{forms_of, located_in}
use Rattle.heap_places.specs.heap_texts.declared.fault.OpFault.{OpFault}
use Rattle.heap_places.specs.heap_texts.declared.fault.OpFault.TheVariants as op
use Rattle.heap_places.specs.declared.value.Value.{Value}
use Rattle.heap_places.specs.Shapes.{slot_of, word_in, IsText, shape_damage}
use Rattle.heap_places.specs.Words.{word_damage}
use Rattle.heap_places.specs.Places.{Holds, touched_by, NoText, NamesDamage, FailsFetch, assigned_value}

-- a structure of the class that has this text
pub record IsOfClass (seen : reference.Reference → Shown → Type 0) (it : Shown) (text : List ℕ) : Type 0 where
  pub kind : it.kind ≡ Structure
  pub class : IsText seen (slot_of it 0) text

-- no structure, or one of a class that has another text
abbrev pub IsOfOther : (reference.Reference → Shown → Type 0) → Shown → List ℕ → Type 0
IsOfOther seen it text = (it.kind ≢ Structure) ⊎ ((other : List ℕ) × IsText seen (slot_of it 0) other × (other ≢ text))

-- the name that is touched for the class: none where it is no structure
abbrev pub class_of : Shown → List reference.Reference
class_of it = slot_of it 0 ∷ []

-- why the class of an object can't be told: it is a structure, and what it refers to first is no text or couldn't be fetched
abbrev pub FailsClass : Heap → Heap → Outside Space → Outside Space → ℕ → SwizzleFault → Type 0
FailsClass old new before after at fault = ((shown_at old at).kind ≡ Structure) × (NoText old new before after at fault ⊎ IsTouchFault old before (ref_at old at 0) fault)

-- Whether a value denotes a structure of the class: nil does not.
abbrev pub TellsClass : Heap → Heap → Outside Space → Outside Space → Option ℕ → List ℕ → Result Bool SwizzleFault → Type 0
TellsClass old new before after None text (Ok is) = (is ≡ false) × Reads old new before after []
TellsClass old new before after None text (Err fault) = ⊥
TellsClass old new before after (Some at) text (Ok true) = IsOfClass (joint new after) (shown_at old at) text
    × Reads old new before after (class_of (shown_at old at))
TellsClass old new before after (Some at) text (Ok false) = IsOfOther (joint new after) (shown_at old at) text
    × Reads old new before after (class_of (shown_at old at))
TellsClass old new before after (Some at) text (Err fault) = FailsReading before after fault × FailsClass old new before after at fault

-- a place that the class's text names
abbrev pub IsNamed : List ℕ → Located → Type 0
IsNamed text located = (number : ℕ) × (located_in (forms_of text) number ≡ Some located)

-- the structure has as many places as its class names
abbrev pub structure_damage : Shown → Rows → Option Damage
structure_damage it rows = shape_damage it Structure (1 + rows.refs) (1 + rows.nums)

-- Why a field has no value: trap 4 of nil, trap 5 of an object of another class.
abbrev pub IsFieldTrap : Heap → Heap → Outside Space → Outside Space → Option ℕ → List ℕ → Trap → Type 0
IsFieldTrap old new before after None text t = (t ≡ trap.Nil) × Reads old new before after []
IsFieldTrap old new before after (Some at) text t =
    (t ≡ trap.WrongClass) × IsOfOther (joint new after) (shown_at old at) text × Reads old new before after (class_of (shown_at old at))

-- an object of the class whose shape is that of the class
pub record HasFields (old new : Heap) (after : Outside Space) (at : ℕ) (text : List ℕ) (rows : Rows) : Type 0 where
  pub class : IsOfClass (joint new after) (shown_at old at) text
  pub shape : structure_damage (shown_at old at) rows ≡ None

-- Why a field can't be reached: its object's class can't be told, or the object hasn't the shape of its class.
abbrev pub FailsFields : Heap → Heap → Outside Space → Outside Space → ℕ → List ℕ → Rows → SwizzleFault → Type 0
FailsFields old new before after at text rows fault =
    FailsClass old new before after at fault
    ⊎ (Keeps old new × Within (joint old before) (joint new after) × IsOfClass (joint new after) (shown_at old at) text × NamesDamage old at (structure_damage (shown_at old at) rows) fault)

-- Why the value of a field can't be told, when its object was read as one of the class: its word stands for none, or its object couldn't be
-- fetched.
pub record FailsValue (old : Heap) (before : Outside Space) (at : ℕ) (text : List ℕ) (rows : Rows) (form : Form) (index : ℕ) (fault : SwizzleFault) : Type 0 where
  pub mid : Heap
  pub heap : IsHeap mid
  pub keeps : Keeps old mid
  pub grows : Within (joint old before) (joint mid before)
  pub class : IsOfClass (joint mid before) (shown_at old at) text
  pub shape : structure_damage (shown_at old at) rows ≡ None
  pub why : NamesDamage old at (word_damage form (word_in (shown_at old at) index)) fault
      ⊎ ((form ≡ Reference) × FailsFetch old before (slot_of (shown_at old at) index) fault)

-- The value of a field of what a value denotes.
abbrev pub GetsField : Heap → Heap → Outside Space → Outside Space → Option ℕ → List ℕ → Located → Result Value OpFault → Type 0
GetsField old new before after None text l (Ok v) = ⊥
GetsField old new before after (Some at) text l (Ok v) =
    HasFields old new after at text l.rows × Holds new (shown_at old at) l.place.form (suc l.place.index) v
    × Reads old new before after (class_of (shown_at old at) ++ touched_by (shown_at old at) l.place.form (suc l.place.index))
GetsField old new before after object text l (Err (op.Trap t)) = IsFieldTrap old new before after object text t
GetsField old new before after None text l (Err (op.Swizzle fault)) = ⊥
GetsField old new before after (Some at) text l (Err (op.Swizzle fault)) =
    FailsReading before after fault
    × (FailsFields old new before after at text l.rows fault ⊎ FailsValue old before at text l.rows l.place.form (suc l.place.index) fault)

-- A field was written: after a reading that found the object to be of the class, the value stands there, and the object is assigned.
pub record WritesField (old new : Heap) (before after : Outside Space) (at : ℕ) (text : List ℕ) (l : Located) (v : Value) : Type 0 where
  pub mid : Heap
  pub heap : IsHeap mid
  pub fields : HasFields old mid after at text l.rows
  pub reads : Reads old mid before after (class_of (shown_at old at))
  pub written : new ≡ assigned_value mid at (suc l.place.index) v

abbrev pub SetsField : Heap → Heap → Outside Space → Outside Space → Option ℕ → List ℕ → Located → Value → Result (Unit {0}) OpFault → Type 0
SetsField old new before after None text l v (Ok done) = ⊥
SetsField old new before after (Some at) text l v (Ok done) = WritesField old new before after at text l v
SetsField old new before after object text l v (Err (op.Trap t)) = IsFieldTrap old new before after object text t
SetsField old new before after None text l v (Err (op.Swizzle fault)) = ⊥
SetsField old new before after (Some at) text l v (Err (op.Swizzle fault)) =
    FailsReading before after fault × FailsFields old new before after at text l.rows fault
