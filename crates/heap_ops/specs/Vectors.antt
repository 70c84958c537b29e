-- Vectors: their bounds, and their elements.
use Rattle.std.specs.Prelude.{◌≡◌, ◌⊎◌, ℕ, ◌+◌, ◌-◌, ◌^◌, ℤ, pos, ◌+ℤ◌, ◌-ℤ◌, Bool, true, false, List, [], ◌∷◌, ◌++◌, length, if◌then◌else◌, nat_eq, Option, Some, None, unwrap_or, Result, Ok, Err}
use Rattle.ps_base.specs.Limits.{most_elements}
use Rattle.ps_base.specs.declared.trap.Trap.{Trap}
use Rattle.ps_base.specs.declared.trap.Trap.TheVariants as trap
use Rattle.heap_places.specs.ps_heap.Objects.{place_of, is_vector}
use Rattle.heap_places.specs.ps_outside.Outside.{Outside}
use Rattle.heap_places.specs.obj_layout.Kind.{kind_number}
use Rattle.heap_places.specs.obj_layout.Stored.{Space, Damage, damage}
use Rattle.heap_places.specs.obj_layout.declared.kind.Kind.TheVariants.{Text, Vector}
use Rattle.heap_places.specs.obj_layout.declared.reference.Reference as reference
use Rattle.heap_places.specs.swizzle.declared.fault.SwizzleFault.{SwizzleFault}
use Rattle.heap_places.specs.swizzle.Heap.{Heap, IsHeap, header_at, ref_at}
use Rattle.heap_places.specs.swizzle.Joint.{Shown, shown_at}
use Rattle.heap_places.specs.swizzle.Changes.{Within}
use Rattle.heap_places.specs.swizzle.Reading.{joint, Reads, FailsReading}
use Rattle.heap_places.specs.swizzle.Text.{text_at}
use Rattle.heap_places.specs.swizzle.Touch.{Denotes, Keeps, IsTouchFault}
use Rattle.heap_places.specs.text_forms.declared.forms.Form.{Form}
use Rattle.heap_places.specs.text_forms.declared.forms.Form.TheVariants.{Reference}
use Rattle.heap_places.specs.text_forms.declared.forms.Form.TheVariants as form
use Rattle.heap_places.specs.text_forms.Forms.{element_of, is_number_form}
use Rattle.heap_places.specs.heap_texts.declared.fault.OpFault.{OpFault}
use Rattle.heap_places.specs.heap_texts.declared.fault.OpFault.TheVariants as op
use Rattle.heap_places.specs.declared.value.Value.{Value}
use Rattle.heap_places.specs.declared.value.Value.TheVariants.{Num, Flag, Ref}
use Rattle.heap_places.specs.ps_heap.Values.{number_of, is_one}
use Rattle.heap_places.specs.Shapes.{slot_of, word_in, IsText}
use Rattle.heap_places.specs.Words.{int_in, word_damage}
use Rattle.heap_places.specs.Places.{Holds, touched_by, NoText, NamesDamage, FailsFetch, fit_damage, assigned_value}
use Rattle.heap_places.specs.Filling.{Fills}
use Rattle.heap_places.specs.declared.places.Misfit.{Misfit}
use Rattle.heap_ops.specs.declared.shape.Shape.{Shape}

-- how many elements it has, whose elements are of this form
unfoldable pub count_of : Shown → Form → ℕ
count_of it form = if is_number_form form then length it.nums - 2 else length it.refs - 1

-- its lower bound
unfoldable pub low_of : Shown → ℤ
low_of it = unwrap_or (int_in (word_in it 1)) (pos 0)

-- the index of an element in its row: of number words two stand before, of references one
abbrev pub index_of : Form → ℕ → ℕ
index_of form n = if is_number_form form then 2 + n else 1 + n

abbrev pub of_bounds : Option ℤ → ℕ → ℕ → Option Damage
of_bounds None word count = damage word (2 ^ 31)
of_bounds (Some low) word count = if is_vector low count then None else damage count most_elements

-- The first of these that isn't so of a vector whose elements are of this form: the other row holds nothing more, the lower bound is an int, it
-- has 1 to `most_elements` elements and its upper bound is an int.
unfoldable pub vector_damage : Shown → Form → Option Damage
vector_damage it form =
    let rest = if is_number_form form then length it.refs else length it.nums in
    let wanted = if is_number_form form then 1 else 2 in
    if nat_eq rest wanted then of_bounds (int_in (word_in it 1)) (word_in it 1) (count_of it form) else damage rest wanted

-- a vector whose type has this text
pub record IsOfType (seen : reference.Reference → Shown → Type 0) (it : Shown) (text : List ℕ) : Type 0 where
  pub kind : it.kind ≡ Vector
  pub type : IsText seen (slot_of it 0) text
  pub shape : vector_damage it (element_of text) ≡ None

-- the name that is touched for the type
abbrev pub type_of : Shown → List reference.Reference
type_of it = slot_of it 0 ∷ []

abbrev pub kind_damage : Shown → Option Damage
kind_damage it = if nat_eq (kind_number it.kind) 3 then None else damage (kind_number it.kind) 3

-- Why a vector's bounds can't be told: it is no vector, what it refers to first is no text or couldn't be fetched, or it hasn't the shape of its
-- type.
abbrev pub FailsVector : Heap → Heap → Outside Space → Outside Space → ℕ → SwizzleFault → Type 0
FailsVector old new before after at fault =
    NamesDamage old at (kind_damage (shown_at old at)) fault
    ⊎ (((shown_at old at).kind ≡ Vector) × (NoText old new before after at fault ⊎ IsTouchFault old before (ref_at old at 0) fault))
    ⊎ (((shown_at old at).kind ≡ Vector)
    × Keeps old new × Within (joint old before) (joint new after)
    × ((text : List ℕ) × IsText (joint new after) (slot_of (shown_at old at) 0) text × NamesDamage old at (vector_damage (shown_at old at) (element_of text)) fault))

-- A vector was read as one whose type has this text.
pub record ReadsVector (old new : Heap) (before after : Outside Space) (at : ℕ) (text : List ℕ) : Type 0 where
  pub is : IsOfType (joint new after) (shown_at old at) text
  pub reads : Reads old new before after (type_of (shown_at old at))

-- what a vector was found to be: the form of its elements, its lower bound, and how many elements it has
pub record IsShaped (it : Shown) (shape : Shape) : Type 0 where
  pub sound : vector_damage it shape.form ≡ None
  pub low_is : shape.low ≡ low_of it
  pub count_is : shape.count ≡ count_of it shape.form
  pub fits : is_vector shape.low shape.count ≡ true

-- its shape was read, or it is damaged
abbrev pub FindsShape : Shown → Form → Result Shape Misfit → Type 0
FindsShape it form (Ok shape) = IsShaped it shape × (shape.form ≡ form)
FindsShape it form (Err misfit) = vector_damage it form ≡ damage misfit.found misfit.wanted

abbrev pub ReadsShape : Heap → Heap → Outside Space → Outside Space → ℕ → Result Shape SwizzleFault → Type 0
ReadsShape old new before after at (Ok shape) =
    (text : List ℕ) × ReadsVector old new before after at text × IsShaped (shown_at old at) shape × (shape.form ≡ element_of text)
ReadsShape old new before after at (Err fault) = FailsReading before after fault × FailsVector old new before after at fault

-- The text of a vector's type lies in the area, and tells the form of its elements.
pub record HasType (here : Heap) (at : ℕ) (form : Form) : Type 0 where
  pub text : ℕ
  pub denotes : Denotes here (Some text) (slot_of (shown_at here at) 0)
  pub kind : (header_at here text).kind ≡ Text
  pub tells : form ≡ element_of (text_at here text)

-- its lower bound
abbrev pub TellsLow : Heap → Heap → Outside Space → Outside Space → ℕ → Result ℤ SwizzleFault → Type 0
TellsLow old new before after at (Ok z) =
    (text : List ℕ) × ReadsVector old new before after at text × (z ≡ low_of (shown_at old at))
TellsLow old new before after at (Err fault) = FailsReading before after fault × FailsVector old new before after at fault

-- its upper bound
abbrev pub TellsHigh : Heap → Heap → Outside Space → Outside Space → ℕ → Result ℤ SwizzleFault → Type 0
TellsHigh old new before after at (Ok z) =
    (text : List ℕ) × ReadsVector old new before after at text
    × (z ≡ low_of (shown_at old at) +ℤ (pos (count_of (shown_at old at) (element_of text)) -ℤ pos 1))
TellsHigh old new before after at (Err fault) = FailsReading before after fault × FailsVector old new before after at fault

-- the place of a subscript in a vector whose type has this text
abbrev pub subscript : Shown → List ℕ → ℤ → Option ℕ
subscript it text z = place_of (low_of it) (count_of it (element_of text)) z

-- the subscript is outside the vector: trap 3
abbrev pub IsBoundsTrap : Heap → Heap → Outside Space → Outside Space → ℕ → ℤ → Trap → Type 0
IsBoundsTrap old new before after at z t =
    (t ≡ trap.Bounds) × ((text : List ℕ) × ReadsVector old new before after at text × (subscript (shown_at old at) text z ≡ None))

-- Why the value of an element can't be told, when the vector was read as one whose type has this text: its word stands for none, or its object
-- couldn't be fetched.
pub record FailsElement (old : Heap) (before : Outside Space) (at : ℕ) (z : ℤ) (fault : SwizzleFault) : Type 0 where
  pub mid : Heap
  pub text : List ℕ
  pub n : ℕ
  pub heap : IsHeap mid
  pub keeps : Keeps old mid
  pub grows : Within (joint old before) (joint mid before)
  pub is : IsOfType (joint mid before) (shown_at old at) text
  pub place : subscript (shown_at old at) text z ≡ Some n
  pub why : NamesDamage old at (word_damage (element_of text) (word_in (shown_at old at) (index_of (element_of text) n))) fault
      ⊎ ((element_of text ≡ Reference) × FailsFetch old before (slot_of (shown_at old at) (index_of (element_of text) n)) fault)

-- an element was read
pub record ReadsElement (old new : Heap) (before after : Outside Space) (at : ℕ) (z : ℤ) (v : Value) : Type 0 where
  pub text : List ℕ
  pub n : ℕ
  pub is : IsOfType (joint new after) (shown_at old at) text
  pub place : subscript (shown_at old at) text z ≡ Some n
  pub value : Holds new (shown_at old at) (element_of text) (index_of (element_of text) n) v
  pub reads : Reads old new before after (type_of (shown_at old at) ++ touched_by (shown_at old at) (element_of text) (index_of (element_of text) n))

-- The element of a vector at a subscript.
abbrev pub GetsElement : Heap → Heap → Outside Space → Outside Space → ℕ → ℤ → Result Value OpFault → Type 0
GetsElement old new before after at z (Ok v) = ReadsElement old new before after at z v
GetsElement old new before after at z (Err (op.Trap t)) = IsBoundsTrap old new before after at z t
GetsElement old new before after at z (Err (op.Swizzle fault)) =
    FailsReading before after fault × (FailsVector old new before after at fault ⊎ FailsElement old before at z fault)

-- The value as an element of a form holds it, where it belongs into that row: of an int a bool keeps whether it is above 0, and of a bool an int
-- keeps 1 or 0.
unfoldable pub fitted : Form → Value → Option Value
fitted form.Number (Num z) = Some (Num z)
fitted form.Number (Flag b) = Some (Num (number_of b))
fitted form.Flag (Num z) = Some (Flag (is_one z))
fitted form.Flag (Flag b) = Some (Flag b)
fitted Reference (Ref to) = Some (Ref to)
fitted _ _ = None

-- An element was written: after a reading of the vector the value stands there, and the vector is assigned.
pub record WritesElement (old new : Heap) (before after : Outside Space) (at : ℕ) (z : ℤ) (v : Value) : Type 0 where
  pub mid : Heap
  pub text : List ℕ
  pub n : ℕ
  pub heap : IsHeap mid
  pub vector : ReadsVector old mid before after at text
  pub stored : Value
  pub fits : fitted (element_of text) v ≡ Some stored
  pub place : subscript (shown_at old at) text z ≡ Some n
  pub written : new ≡ assigned_value mid at (index_of (element_of text) n) stored

-- An element is written; a value that belongs into the other row is refused as damage of the vector.
abbrev pub SetsElement : Heap → Heap → Outside Space → Outside Space → ℕ → ℤ → Value → Result (Unit {0}) OpFault → Type 0
SetsElement old new before after at z v (Ok done) = WritesElement old new before after at z v
SetsElement old new before after at z v (Err (op.Trap t)) = IsBoundsTrap old new before after at z t
SetsElement old new before after at z v (Err (op.Swizzle fault)) =
    FailsReading before after fault
    × (FailsVector old new before after at fault
    ⊎ ((text : List ℕ) × Keeps old new × Within (joint old before) (joint new after) × IsOfType (joint new after) (shown_at old at) text
    × (fitted (element_of text) v ≡ None) × NamesDamage old at (fit_damage (element_of text) v) fault))

-- A vector was made, or its bounds are none of a vector, or there was no room for it.
abbrev pub MakesVector : Heap → Heap → ℕ → ℤ → List Value → Bool → Result ℕ OpFault → Type 0
MakesVector old new ty low values true (Ok at) = Fills old new Vector ty (Some low) values (Ok at)
MakesVector old new ty low values true (Err (op.Swizzle fault)) = Fills old new Vector ty (Some low) values (Err fault)
MakesVector old new ty low values true (Err (op.Trap t)) = ⊥
MakesVector old new ty low values false result = (result ≡ Err (op.Trap trap.Bounds)) × (new ≡ old)
