-- New scopes.
use Rattle.std.specs.Prelude.{ℕ, pos, ◌+◌, ◌∷◌, replicate, false, Option, None, Result, Ok, Err, List}
use Rattle.closures.specs.obj_layout.declared.kind.Kind.TheVariants.{Scope}
use Rattle.closures.specs.obj_layout.declared.reference.Reference.TheVariants.{Nil, Local}
use Rattle.closures.specs.swizzle.declared.fault.SwizzleFault.{SwizzleFault}
use Rattle.closures.specs.swizzle.Objects.{Object}
use Rattle.closures.specs.swizzle.Heap.{Heap, IsMade, IsFull, reference_to, blank}
use Rattle.closures.specs.text_forms.declared.forms.Form.{Form}
use Rattle.closures.specs.text_forms.declared.forms.Form.TheVariants.{Number, Flag as Truth, Reference}
use Rattle.closures.specs.text_forms.declared.forms.Rows.{Rows}
use Rattle.closures.specs.text_forms.Forms.{forms_of, rows_of}
use Rattle.closures.specs.heap_places.declared.value.Value.{Value}
use Rattle.closures.specs.heap_places.declared.value.Value.TheVariants.{Num, Flag, Ref}

-- A new scope: its text, its parent where it has one, and after them nil for each name that is no number; after its home, which is 0, a 0 for
-- each that is.
unfoldable pub scope_object : ℕ → Option ℕ → Rows → Object
scope_object names parent rows =
    record (blank Scope (2 + rows.refs) (1 + rows.nums) 0) { refs = Local names ∷ reference_to parent ∷ replicate rows.refs Nil }

-- how many words it has
unfoldable pub scope_words : Rows → ℕ
scope_words rows = 4 + (2 + rows.refs) + (1 + rows.nums)

-- The scope of a text was made, or there was no room for it.
abbrev pub MakesScope : Heap → Heap → ℕ → List ℕ → Option ℕ → Result ℕ SwizzleFault → Type 0
MakesScope old new names text parent (Ok at) = IsMade old new at (scope_object names parent (rows_of (forms_of text)))
MakesScope old new names text parent (Err fault) = IsFull old new (scope_words (rows_of (forms_of text))) fault

-- what a new scope keeps under a name whose place has this form
abbrev pub first_value : Form → Value
first_value Number = Num (pos 0)
first_value Truth = Flag false
first_value Reference = Ref None
