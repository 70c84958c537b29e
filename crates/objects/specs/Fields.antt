-- Fields of structures whose class is a constant of a code object: what is known of them.
use Rattle.std.specs.Prelude.{◌≡◌, ◌⊎◌, ℕ, ◌+◌, ◌<◌, List, [], ◌∷◌, Option, Some}
use Rattle.joint_ops.specs.obj_layout.declared.kind.Kind.TheVariants.{Text, Code, Structure}
use Rattle.joint_ops.specs.obj_layout.declared.reference.Reference.TheVariants.{Local}
use Rattle.joint_ops.specs.swizzle.Heap as area
use Rattle.joint_ops.specs.swizzle.Heap.{IsHeld, header_at, ref_at}
use Rattle.joint_ops.specs.swizzle.Joint.{shown_at}
use Rattle.joint_ops.specs.swizzle.Text.{text_at}
use Rattle.joint_ops.specs.swizzle.Touch.{Denotes}
use Rattle.joint_ops.specs.text_forms.Forms.{forms_of, located_in}
use Rattle.joint_ops.specs.heap_places.Shapes.{slot_of}
use Rattle.joint_ops.specs.heap_places.Places.{HasPlace, Holds}
use Rattle.joint_ops.specs.heap_places.declared.value.Value as code_value
use Rattle.objects.specs.declared.known_fields.KnownField.{KnownField}

-- a structure that refers to this object of the area first
pub record RefersTo (here : area.Heap) (at text : ℕ) : Type 0 where
  pub kind : (header_at here at).kind ≡ Structure
  pub class : ref_at here at 0 ≡ Local text

-- a code object refers to this text of the area as its constant of this number
pub record IsConstantText (here : area.Heap) (code constant at : ℕ) : Type 0 where
  pub code_held : IsHeld here code
  pub code_kind : (header_at here code).kind ≡ Code
  pub below : constant < (header_at here code).refs
  pub denotes : Denotes here (Some at) (slot_of (shown_at here code) constant)
  pub kind : (header_at here at).kind ≡ Text

-- What an entry says is so: its text has the bytes of the text that is the constant, and there the class has its field of this number.
pub record IsSo (here : area.Heap) (known : KnownField) : Type 0 where
  pub named : ℕ
  pub constant : IsConstantText here known.code known.constant named
  pub held : IsHeld here known.text
  pub kind : (header_at here known.text).kind ≡ Text
  pub same : text_at here known.text ≡ text_at here named
  pub place : located_in (forms_of (text_at here known.text)) known.field ≡ Some known.located

-- each entry says what is so, or nothing, where its text is 0
abbrev pub AreSo : area.Heap → List KnownField → Type 0
AreSo here [] = Unit {0}
AreSo here (known ∷ rest) = ((known.text ≡ 0) ⊎ IsSo here known) × AreSo here rest

-- This is known of the field of this number of the class that this constant of a code object is, of structures that refer to this text.
pub record IsKnown (here : area.Heap) (code constant field text : ℕ) (known : KnownField) : Type 0 where
  pub text_is : known.text ≡ text
  pub code_is : known.code ≡ code
  pub constant_is : known.constant ≡ constant
  pub field_is : known.field ≡ field
  pub so : IsSo here known

-- A structure refers to the text of what is known of a field, and has the field's place.
pub record IsReached (here : area.Heap) (code constant field at : ℕ) (known : KnownField) : Type 0 where
  pub refers : RefersTo here at known.text
  pub is : IsKnown here code constant field known.text known
  pub place : HasPlace (shown_at here at) known.located.place.form (known.located.place.index + 1)

-- The field of a structure, if it is one, is reached so, and has this value.
pub record HasReached (here : area.Heap) (code constant field : ℕ) (object : Option ℕ) (value : code_value.Value) : Type 0 where
  pub at : ℕ
  pub object_is : object ≡ Some at
  pub known : KnownField
  pub reached : IsReached here code constant field at known
  pub holds : Holds here (shown_at here at) known.located.place.form (known.located.place.index + 1) value
