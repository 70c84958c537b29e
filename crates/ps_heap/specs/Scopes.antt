-- Scopes: objects that hold the names of a block that procedures inside it keep.
use Rattle.std.specs.Prelude.{ℕ, zero, suc, pos, false, List, [], map, set, Option, Some, None}
use Rattle.text_forms.specs.declared.forms.Form.{Form}
use Rattle.text_forms.specs.declared.forms.Form.TheVariants.{Number, Flag, Reference}
use Rattle.text_forms.specs.Forms.{forms_of, form_in}
use Rattle.ps_heap.specs.Values.{Value, Num, Nil}
use Rattle.ps_heap.specs.Values as value
use Rattle.ps_heap.specs.Objects.{Heap, Object, Scope, object_at, with_object, value_at, kept_as}

-- what a name of a form holds until its declaration gives it a value
abbrev pub first_value : Form → Value
first_value Number = Num (pos 0)
first_value Flag = value.Flag false
first_value Reference = Nil

-- a new scope of this text inside another one, or inside none
unfoldable pub new_scope : List ℕ → Option ℕ → Object
new_scope text parent = Scope text parent (map first_value (forms_of text))

abbrev pub scope_at : Heap → Option ℕ → Option Object
scope_at heap None = None
scope_at heap (Some id) = object_at heap id

abbrev pub parent_in : Option Object → Option ℕ
parent_in (Some (Scope text parent names)) = parent
parent_in _ = None

abbrev pub names_in : Option Object → List Value
names_in (Some (Scope text parent names)) = names
names_in _ = []

-- the scope so many levels out from one
unfoldable pub scope_out : Heap → Option ℕ → ℕ → Option ℕ
scope_out heap scope zero = scope
scope_out heap scope (suc up) = scope_out heap (parent_in (scope_at heap scope)) up

-- the value of the name at a position of a scope
unfoldable pub name_in : Heap → Option ℕ → ℕ → Value
name_in heap scope position = value_at (names_in (scope_at heap scope)) position

abbrev pub with_name_in : Heap → ℕ → Option Object → ℕ → Value → Heap
with_name_in heap id (Some (Scope text parent names)) position v =
    with_object heap id (Scope text parent (set names position (kept_as (form_in (forms_of text) position) v)))
with_name_in heap id _ position v = heap

-- the heap with another value of that name, as the text of the scope keeps it
unfoldable pub with_name : Heap → Option ℕ → ℕ → Value → Heap
with_name heap None position v = heap
with_name heap (Some id) position v = with_name_in heap id (object_at heap id) position v

-- the name at a position of the scope so many levels out from a scope: its value, and the heap where it has another one
abbrev pub kept_name : Heap → Option ℕ → ℕ → ℕ → Value
kept_name heap scope up position = name_in heap (scope_out heap scope up) position

abbrev pub with_kept_name : Heap → Option ℕ → ℕ → ℕ → Value → Heap
with_kept_name heap scope up position v = with_name heap (scope_out heap scope up) position v
