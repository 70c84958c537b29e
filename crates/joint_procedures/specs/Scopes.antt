-- What becomes of area and vault where scopes are made and left, and their names read and written.
use Rattle.std.specs.Prelude.{◌≡◌, ◌⊎◌, ℕ, ◌+◌, ◌*◌, true, List, Option, Some, None, Result, Ok, Err}
use Rattle.joint_ops.specs.ps_outside.Outside.{Outside}
use Rattle.joint_ops.specs.obj_layout.Stored.{Space}
use Rattle.joint_ops.specs.obj_layout.declared.kind.Kind.TheVariants as kind
use Rattle.joint_ops.specs.obj_layout.declared.reference.Reference as reference
use Rattle.joint_ops.specs.obj_layout.declared.vault.VaultFault.TheVariants.{Damaged}
use Rattle.joint_ops.specs.swizzle.Heap as area
use Rattle.joint_ops.specs.swizzle.Heap.{IsHeap, IsHeld, top_of, header_at}
use Rattle.joint_ops.specs.swizzle.Joint.{name_at}
use Rattle.joint_ops.specs.swizzle.Touch.{Keeps}
use Rattle.joint_ops.specs.swizzle.declared.fault.SwizzleFault.{SwizzleFault}
use Rattle.joint_ops.specs.swizzle.declared.fault.SwizzleFault.TheVariants.{Vault}
use Rattle.joint_ops.specs.text_forms.declared.forms.Form.{Form}
use Rattle.joint_ops.specs.text_forms.declared.forms.Form.TheVariants as form
use Rattle.joint_ops.specs.text_forms.declared.forms.Located.{Located}
use Rattle.joint_ops.specs.text_forms.Forms.{forms_of, form_in, located_in}
use Rattle.scopes.specs.heap_places.declared.value.Value as code
use Rattle.scopes.specs.heap_places.declared.value.Value.TheVariants as held
use Rattle.scopes.specs.heap_places.Places.{assigned_value}
use Rattle.scopes.specs.heap_ops.Vectors.{fitted}
use Rattle.scopes.specs.Names.{index_of}
use Rattle.joint_ops.specs.ps_heap.Operators.{is_int}
use Rattle.joint_ops.specs.ps_heap.Values.{Value}
use Rattle.joint_ops.specs.ps_heap.Objects.{Heap, Object, Scope, with_new, new_number}
use Rattle.joint_ops.specs.ps_heap.Scopes.{scope_at, scope_out, kept_name, with_kept_name}
use Rattle.joint_ops.specs.ps_heap.Weights.{own_weight}
use Rattle.joint_ops.specs.heap_meaning.Paired.{and_name}
use Rattle.joint_ops.specs.Seeing.{Gains}
use Rattle.joint_ops.specs.World.{IsWorld, DenotesScopeIn, IsForIn, IsOfForm, Carries, Stands, Rewritten, BreaksOff}
use Rattle.joint_ops.specs.Made.{IsFresh, IsShort}

-- some object is damaged
abbrev pub IsDamage : SwizzleFault → Type 0
IsDamage fault = (pid : ℕ) × (found : ℕ) × (wanted : ℕ) × (fault ≡ Vault (Damaged pid found wanted))

-- a scope of the heap: its text, and the scope round it
pub record IsScopeOf (of : Heap) (scope : Option ℕ) (text : List ℕ) (parent : Option ℕ) : Type 0 where
  pub values : List Value
  pub is : scope_at of scope ≡ Some (Scope text parent values)

-- the scope so many levels out has a name of this number, which has this form
pub record HasName (of : Heap) (scope : Option ℕ) (up name : ℕ) (f : Form) : Type 0 where
  pub text : List ℕ
  pub parent : Option ℕ
  pub level : IsScopeOf of (scope_out of scope up) text parent
  pub place : form_in (forms_of text) name ≡ Some f

-- a value in code that belongs into the row of a place of this form
abbrev pub IsOfRow : Form → code.Value → Type 0
IsOfRow form.Reference (held.Ref to) = Unit {0}
IsOfRow form.Reference _ = ⊥
IsOfRow _ (held.Ref to) = ⊥
IsOfRow _ _ = Unit {0}

-- a number in code that is an int
abbrev pub IsInt : code.Value → Type 0
IsInt (held.Num z) = is_int z ≡ true
IsInt _ = Unit {0}

-- What was done to the area where a name was written: after objects may have come, the value stands in the name's place of a scope, as its form
-- holds it, and the scope is assigned.
pub record PutsKept (old new : area.Heap) (name : ℕ) (c : code.Value) : Type 0 where
  pub mid : area.Heap
  pub at : ℕ
  pub located : Located
  pub stored : code.Value
  pub heap : IsHeap mid
  pub keeps : Keeps old mid
  pub held : IsHeld mid at
  pub kind : (header_at mid at).kind ≡ kind.Scope
  pub place : (text : List ℕ) × (located_in (forms_of text) name ≡ Some located)
  pub fits : fitted located.place.form c ≡ Some stored
  pub written : new ≡ assigned_value mid at (index_of located.place) stored

module _ (old new : area.Heap) (outside : Outside Space) where
  -- A new scope, which isn't stored: the heap has one object more, and its name is the last of the row.
  pub record IsNewScope (of : Heap) (names : List reference.Reference) (object : Object) (at : ℕ) : Type 0 where
    pub held : IsHeld new at
    pub unstored : (header_at new at).pid ≡ 0
    pub fresh : IsFresh object
    pub world : IsWorld new outside (with_new of object) (and_name names (name_at new at))
    pub carries : Carries old new outside outside names (and_name names (name_at new at))
    pub gains : Gains old new outside outside
    pub top : 8 * top_of new ≡ 8 * top_of old + own_weight object
    pub denotes : DenotesScopeIn new outside (and_name names (name_at new at)) (Some at) (Some (new_number of))

  abbrev pub MakesScope : Heap → List reference.Reference → Object → Result ℕ SwizzleFault → Type 0
  MakesScope of names object (Ok at) = IsNewScope of names object at
  MakesScope of names object (Err fault) = IsShort old new (own_weight object) fault

module _ (old new : area.Heap) (before after : Outside Space) where
  -- The scope is one of the heap, and this is the one round it, or none.
  pub record IsRound (of : Heap) (names : List reference.Reference) (scope to : Option ℕ) : Type 0 where
    pub text : List ℕ
    pub parent : Option ℕ
    pub is : IsScopeOf of scope text parent
    pub denotes : DenotesScopeIn new after names to parent
    pub stands : Stands old new before after of names

  abbrev pub AnswersParent : Heap → List reference.Reference → Option ℕ → Result (Option ℕ) SwizzleFault → Type 0
  AnswersParent of names scope (Ok to) = IsRound of names scope to
  AnswersParent of names scope (Err fault) = BreaksOff old new before after fault

  -- the scope so many levels out, where there is one
  pub record IsOut (of : Heap) (names : List reference.Reference) (scope : Option ℕ) (up at : ℕ) : Type 0 where
    pub id : ℕ
    pub is : scope_out of scope up ≡ Some id
    pub denotes : DenotesScopeIn new after names (Some at) (Some id)
    pub stands : Stands old new before after of names

  -- It is damaged exactly where there is none; or the way out broke off.
  abbrev pub AnswersOut : Heap → List reference.Reference → Option ℕ → ℕ → Result ℕ SwizzleFault → Type 0
  AnswersOut of names scope up (Ok at) = IsOut of names scope up at
  AnswersOut of names scope up (Err fault) = ((scope_out of scope up ≡ None) × IsDamage fault) ⊎ BreaksOff old new before after fault

  -- What is kept under a name of the scope so many levels out; there is no such scope, or its text has no such name, exactly where it is damaged.
  abbrev pub ReadsKept : Heap → List reference.Reference → Option ℕ → ℕ → ℕ → Result code.Value SwizzleFault → Type 0
  ReadsKept of names scope up name (Ok c) =
      (f : Form) × HasName of scope up name f × IsOfForm f c × IsForIn new after names c (kept_name of scope up name) × Stands old new before after of names
  ReadsKept of names scope up name (Err fault) =
      (((f : Form) → HasName of scope up name f → ⊥) × IsDamage fault) ⊎ BreaksOff old new before after fault

  -- It is written, as its form keeps it, in the scope of this id. It is damaged exactly where there is none of the value's row.
  abbrev pub WritesKept : Heap → List reference.Reference → Option ℕ → ℕ → ℕ → code.Value → Value → Result (Unit {0}) SwizzleFault → Type 0
  WritesKept of names scope up name c v (Ok done) =
      (f : Form) × HasName of scope up name f × IsOfRow f c
      × ((id : ℕ) × (scope_out of scope up ≡ Some id) × Rewritten old new before after id of (with_kept_name of scope up name v) names)
  WritesKept of names scope up name c v (Err fault) =
      (((f : Form) → HasName of scope up name f → IsOfRow f c → ⊥) × IsDamage fault) ⊎ BreaksOff old new before after fault
