-- The names of scopes: what is read of one, and what is written to it.
use Rattle.std.specs.Prelude.{◌≡◌, ◌⊎◌, ℕ, ◌+◌, List, [], ◌∷◌, ◌++◌, length, nat_eq, if◌then◌else◌, Option, Some, None, Result, Ok, Err}
use Rattle.closures.specs.ps_outside.Outside.{Outside}
use Rattle.closures.specs.obj_layout.Kind.{kind_number}
use Rattle.closures.specs.obj_layout.Stored.{Space, Damage, damage}
use Rattle.closures.specs.obj_layout.declared.kind.Kind.TheVariants.{Scope}
use Rattle.closures.specs.obj_layout.declared.reference.Reference as reference
use Rattle.closures.specs.swizzle.declared.fault.SwizzleFault.{SwizzleFault}
use Rattle.closures.specs.swizzle.Heap.{Heap, IsHeap, ref_at}
use Rattle.closures.specs.swizzle.Joint.{Shown, shown_at}
use Rattle.closures.specs.swizzle.Changes.{Within}
use Rattle.closures.specs.swizzle.Reading.{joint, Reads, FailsReading}
use Rattle.closures.specs.swizzle.Touch.{Keeps, IsTouchFault}
use Rattle.closures.specs.text_forms.declared.forms.Form.{Form}
use Rattle.closures.specs.text_forms.declared.forms.Form.TheVariants.{Reference}
use Rattle.closures.specs.text_forms.declared.forms.Place.{Place}
use Rattle.closures.specs.text_forms.declared.forms.Rows.{Rows}
use Rattle.closures.specs.text_forms.declared.forms.Located.{Located}
use Rattle.closures.specs.text_forms.Forms.{forms_of, located_in, is_number_form}
use Rattle.closures.specs.heap_places.declared.value.Value.{Value}
use Rattle.closures.specs.heap_places.Shapes.{slot_of, word_in, IsText, shape_damage}
use Rattle.closures.specs.heap_places.Words.{word_damage}
use Rattle.closures.specs.heap_places.Places.{Holds, touched_by, NoText, NamesDamage, FailsFetch, fit_damage, assigned_value}
use Rattle.heap_ops.specs.Vectors.{fitted}

-- the object is no scope
abbrev pub kind_damage : Shown → Option Damage
kind_damage it = if nat_eq (kind_number it.kind) 4 then None else damage (kind_number it.kind) 4

-- A scope has two references and one number word before its names.
abbrev pub scope_damage : Shown → Rows → Option Damage
scope_damage it rows = shape_damage it Scope (2 + rows.refs) (1 + rows.nums)

abbrev pub damage_by : Shown → ℕ → ℕ → Option Located → Option Damage
damage_by it name count None = damage name count
damage_by it name count (Some located) = scope_damage it located.rows

-- The first of these that isn't so of a scope whose text tells of these forms: it has a name of this number, and it has a place for each name.
unfoldable pub name_damage : Shown → List Form → ℕ → Option Damage
name_damage it forms name = damage_by it name (length forms) (located_in forms name)

-- the index of a name's place in its row: after the home, or after the text and the parent
abbrev pub index_of : Place → ℕ
index_of place = if is_number_form place.form then 1 + place.index else 2 + place.index

-- A scope whose text tells this place of a name, and which has the shape that it tells.
pub record HasName (seen : reference.Reference → Shown → Type 0) (it : Shown) (text : List ℕ) (name : ℕ) (located : Located) : Type 0 where
  pub kind : it.kind ≡ Scope
  pub names : IsText seen (slot_of it 0) text
  pub place : located_in (forms_of text) name ≡ Some located
  pub shape : scope_damage it located.rows ≡ None

-- the name that is touched for the text
abbrev pub text_of : Shown → List reference.Reference
text_of it = slot_of it 0 ∷ []

-- Why the place of a name can't be told: the object is no scope, what it refers to first is no text or couldn't be fetched, the text has no
-- such name, or the scope hasn't the shape that its text tells.
abbrev pub FailsName : Heap → Heap → Outside Space → Outside Space → ℕ → ℕ → SwizzleFault → Type 0
FailsName old new before after at name fault =
    NamesDamage old at (kind_damage (shown_at old at)) fault
    ⊎ (((shown_at old at).kind ≡ Scope) × (NoText old new before after at fault ⊎ IsTouchFault old before (ref_at old at 0) fault))
    ⊎ (((shown_at old at).kind ≡ Scope) × Keeps old new × Within (joint old before) (joint new after)
    × ((text : List ℕ) × IsText (joint new after) (slot_of (shown_at old at) 0) text
    × NamesDamage old at (name_damage (shown_at old at) (forms_of text) name) fault))

-- Why the value of a name can't be told, when the scope was read as one that has the name: its word stands for none, or its object couldn't be
-- fetched.
pub record FailsKept (old : Heap) (before : Outside Space) (at name : ℕ) (fault : SwizzleFault) : Type 0 where
  pub mid : Heap
  pub text : List ℕ
  pub located : Located
  pub heap : IsHeap mid
  pub keeps : Keeps old mid
  pub grows : Within (joint old before) (joint mid before)
  pub is : HasName (joint mid before) (shown_at old at) text name located
  pub why : NamesDamage old at (word_damage located.place.form (word_in (shown_at old at) (index_of located.place))) fault
      ⊎ ((located.place.form ≡ Reference) × FailsFetch old before (slot_of (shown_at old at) (index_of located.place)) fault)

-- The value of a name was read.
pub record ReadsKept (old new : Heap) (before after : Outside Space) (at name : ℕ) (v : Value) : Type 0 where
  pub text : List ℕ
  pub located : Located
  pub is : HasName (joint new after) (shown_at old at) text name located
  pub value : Holds new (shown_at old at) located.place.form (index_of located.place) v
  pub reads : Reads old new before after (text_of (shown_at old at) ++ touched_by (shown_at old at) located.place.form (index_of located.place))

-- What a scope keeps under a name.
abbrev pub GetsKept : Heap → Heap → Outside Space → Outside Space → ℕ → ℕ → Result Value SwizzleFault → Type 0
GetsKept old new before after at name (Ok v) = ReadsKept old new before after at name v
GetsKept old new before after at name (Err fault) =
    FailsReading before after fault × (FailsName old new before after at name fault ⊎ FailsKept old before at name fault)

-- The value of a name was written: after a reading of the scope's text it stands there, as its form holds it, and the scope is assigned.
pub record WritesKept (old new : Heap) (before after : Outside Space) (at name : ℕ) (v : Value) : Type 0 where
  pub mid : Heap
  pub text : List ℕ
  pub located : Located
  pub heap : IsHeap mid
  pub is : HasName (joint mid after) (shown_at old at) text name located
  pub reads : Reads old mid before after (text_of (shown_at old at))
  pub stored : Value
  pub fits : fitted located.place.form v ≡ Some stored
  pub written : new ≡ assigned_value mid at (index_of located.place) stored

-- The value belongs into the other row.
pub record RefusesKept (old new : Heap) (before after : Outside Space) (at name : ℕ) (v : Value) (fault : SwizzleFault) : Type 0 where
  pub text : List ℕ
  pub located : Located
  pub keeps : Keeps old new
  pub grows : Within (joint old before) (joint new after)
  pub is : HasName (joint new after) (shown_at old at) text name located
  pub misfit : fitted located.place.form v ≡ None
  pub names : NamesDamage old at (fit_damage located.place.form v) fault

-- What a scope keeps under a name is written; a value that belongs into the other row is refused as damage of the scope.
abbrev pub SetsKept : Heap → Heap → Outside Space → Outside Space → ℕ → ℕ → Value → Result (Unit {0}) SwizzleFault → Type 0
SetsKept old new before after at name v (Ok done) = WritesKept old new before after at name v
SetsKept old new before after at name v (Err fault) =
    FailsReading before after fault × (FailsName old new before after at name fault ⊎ RefusesKept old new before after at name v fault)
