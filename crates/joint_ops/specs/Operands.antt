-- Operands: values in code, and objects of the area, that denote values of the meaning.
use Rattle.std.specs.Prelude.{◌≡◌, ◌⊎◌, ℕ, List, [], ◌∷◌, Option, Some, None}
use Rattle.heap_meaning.specs.ps_outside.Outside.{Outside}
use Rattle.heap_meaning.specs.obj_layout.Stored.{Space}
use Rattle.heap_meaning.specs.obj_layout.declared.kind.Kind.TheVariants as kind
use Rattle.heap_meaning.specs.obj_layout.declared.reference.Reference as reference
use Rattle.heap_meaning.specs.swizzle.Heap as area
use Rattle.heap_meaning.specs.swizzle.Heap.{header_at}
use Rattle.heap_meaning.specs.text_forms.declared.forms.Form.{Form}
use Rattle.heap_meaning.specs.text_forms.Forms.{element_of}
use Rattle.heap_meaning.specs.heap_places.declared.value.Value as code
use Rattle.heap_meaning.specs.ps_heap.Objects.{Heap, object_at, type_in}
use Rattle.heap_meaning.specs.ps_heap.Values.{Value, Text, Nil, Pointer, Vector, Procedure}
use Rattle.joint_ops.specs.World.{IsForIn, IsOfForm}
use Rattle.joint_ops.specs.declared.values.Sort.{Sort}
use Rattle.joint_ops.specs.declared.values.Sort.TheVariants as sort

-- values in code, each of its form, denote values of the meaning
abbrev pub AreForIn : area.Heap → Outside Space → List reference.Reference → List Form → List code.Value → List Value → Type 0
AreForIn here outside names [] [] [] = Unit {0}
AreForIn here outside names (f ∷ fs) (c ∷ cs) (v ∷ vs) = IsOfForm f c × IsForIn here outside names c v × AreForIn here outside names fs cs vs
AreForIn here outside names _ _ _ = ⊥

-- the form of the elements of the vector of this number
abbrev pub form_in : Heap → ℕ → Form
form_in of id = element_of (type_in (object_at of id))

-- a value is of this sort
abbrev pub IsOfSort : Value → Sort → Type 0
IsOfSort Nil sort.Nil = Unit {0}
IsOfSort (Text bytes) sort.Text = Unit {0}
IsOfSort (Pointer id) sort.Pointer = Unit {0}
IsOfSort (Vector id) sort.Vector = Unit {0}
IsOfSort (Procedure does scope) sort.Procedure = Unit {0}
IsOfSort _ _ = ⊥

-- an object of the area, or none, is of this sort by its kind
abbrev pub IsSorted : area.Heap → Option ℕ → Sort → Type 0
IsSorted here None sort.Nil = Unit {0}
IsSorted here (Some at) sort.Text = (header_at here at).kind ≡ kind.Text
IsSorted here (Some at) sort.Pointer = ((header_at here at).kind ≡ kind.Structure) ⊎ ((header_at here at).kind ≡ kind.Table)
IsSorted here (Some at) sort.Vector = (header_at here at).kind ≡ kind.Vector
IsSorted here (Some at) sort.Procedure = (header_at here at).kind ≡ kind.Closure
IsSorted here (Some at) sort.Other = Unit {0}
IsSorted here _ _ = ⊥

-- the value goes by its object: it is neither a text nor a procedure
abbrev pub IsByObject : Value → Type 0
IsByObject (Text bytes) = ⊥
IsByObject (Procedure does scope) = ⊥
IsByObject _ = Unit {0}
