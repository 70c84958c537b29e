-- Vectors of the area that were read before: what is known of them, and what their elements are by that alone.
use Rattle.std.specs.Prelude.{◌≡◌, ◌≢◌, ◌⊎◌, ℕ, ◌+◌, ◌<◌, ◌^◌, ℤ, true, false, if◌then◌else◌, List, [], ◌∷◌, Option, Some, Bool}
use Rattle.joint_ops.specs.obj_layout.declared.kind.Kind.TheVariants as kind
use Rattle.joint_ops.specs.swizzle.Heap as area
use Rattle.joint_ops.specs.swizzle.Heap.{IsHeld, header_at, num_at}
use Rattle.joint_ops.specs.swizzle.Joint.{shown_at}
use Rattle.joint_ops.specs.text_forms.declared.forms.Form.{Form}
use Rattle.joint_ops.specs.text_forms.Forms.{is_number_form}
use Rattle.joint_ops.specs.heap_places.declared.value.Value.{Value}
use Rattle.joint_ops.specs.heap_places.declared.value.Value.TheVariants.{Ref}
use Rattle.joint_ops.specs.heap_places.Shapes.{word_in}
use Rattle.joint_ops.specs.heap_places.Words.{int_in, flag_in}
use Rattle.joint_ops.specs.heap_places.Places.{Holds, HasRow}
use Rattle.joint_ops.specs.heap_ops.Vectors.{HasType, fitted, index_of}
use Rattle.joint_ops.specs.ps_heap.Objects as meaning
use Rattle.joint_ops.specs.ps_heap.Objects.{is_vector, place_of}
use Rattle.joint_ops.specs.ps_heap.Texts.{Yields}
use Rattle.joint_ops.specs.ps_heap.Values as meant
use Rattle.joint_ops.specs.ps_heap.Values.{number_of}
use Rattle.joint_ops.specs.Operands.{form_in}
use Rattle.objects.specs.declared.known_vectors.KnownVector.{KnownVector}

-- how many references a vector of so many elements has, and how many number words
abbrev pub refs_of : Form → ℕ → ℕ
refs_of form count = if is_number_form form then 1 else 1 + count

abbrev pub nums_of : Form → ℕ → ℕ
nums_of form count = if is_number_form form then 2 + count else 2

-- What an entry says is so of the area: its object is a vector with so many references and number words as so many elements of the form need, the word of
-- its lower bound is that of the bound, and the text of its type tells the form.
pub record IsSo (here : area.Heap) (known : KnownVector) : Type 0 where
  pub held : IsHeld here known.vector
  pub kind : (header_at here known.vector).kind ≡ kind.Vector
  pub refs : (header_at here known.vector).refs ≡ refs_of known.form known.count
  pub nums : (header_at here known.vector).nums ≡ nums_of known.form known.count
  pub low : int_in (word_in (shown_at here known.vector) 1) ≡ Some known.low
  pub fits : is_vector known.low known.count ≡ true
  pub type : HasType here known.vector known.form

-- an entry that says nothing: its object is 0, and it has no element
abbrev pub SaysNothing : KnownVector → Type 0
SaysNothing known = (known.vector ≡ 0) × (known.count ≡ 0)

-- each entry says what is so, or nothing
abbrev pub AreSo : area.Heap → List KnownVector → Type 0
AreSo here [] = Unit {0}
AreSo here (known ∷ rest) = (SaysNothing known ⊎ IsSo here known) × AreSo here rest

-- By what is known of the vector its elements are of this form, and the one at the subscript is this one, from 0.
pub record ReachesElement (here : area.Heap) (vector : ℕ) (at : ℤ) (form : Form) (place : ℕ) : Type 0 where
  pub known : KnownVector
  pub vector_is : known.vector ≡ vector
  pub form_is : known.form ≡ form
  pub place_is : place_of known.low known.count at ≡ Some place
  pub so : IsSo here known

-- and it holds this value
pub record HasElement (here : area.Heap) (vector : ℕ) (at : ℤ) (value : Value) : Type 0 where
  pub form : Form
  pub place : ℕ
  pub reached : ReachesElement here vector at form place
  pub holds : Holds here (shown_at here vector) form (index_of form place) value

-- A value belongs there, and its form keeps it as this one.
pub record IsPut (here : area.Heap) (vector : ℕ) (at : ℤ) (to : Value) (form : Form) (place : ℕ) (value : Value) : Type 0 where
  pub reached : ReachesElement here vector at form place
  pub kept : fitted form to ≡ Some value

-- The vector has this place of the value's row; of one of numbers the type's text is its one reference.
pub record CanPut (here : area.Heap) (vector : ℕ) (form : Form) (place : ℕ) (value : Value) : Type 0 where
  pub held : IsHeld here vector
  pub small : place < 2 ^ 20
  pub row : HasRow (shown_at here vector) (index_of form place) value
  pub number : ((to : Option ℕ) → value ≢ Ref to) → (is_number_form form ≡ true) × (1 ≡ (header_at here vector).refs)
  pub reference : (to : Option ℕ) → value ≡ Ref to → is_number_form form ≡ false

-- It is one of a vector of ints or bools, and this is the number of its word: of a bool 1 or 0.
pub record HasNumber (here : area.Heap) (vector : ℕ) (at number : ℤ) : Type 0 where
  pub form : Form
  pub place : ℕ
  pub reached : ReachesElement here vector at form place
  pub row : is_number_form form ≡ true
  pub int : (z : ℤ) → int_in (num_at here vector (2 + place)) ≡ Some z → number ≡ z
  pub flag : (b : Bool) → flag_in (num_at here vector (2 + place)) ≡ Some b → number ≡ number_of b

-- The elements of the vector of this number are ints or bools, and this is the number of the one at the subscript.
pub record IsNumber (of : meaning.Heap) (id : ℕ) (at number : ℤ) : Type 0 where
  pub value : meant.Value
  pub is : meaning.element_of of (meant.Vector id) at ≡ Yields value
  pub row : is_number_form (form_in of id) ≡ true
  pub word_is : meant.word_of value ≡ number
