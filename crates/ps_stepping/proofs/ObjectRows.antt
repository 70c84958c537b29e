-- Steps over structures, vectors and texts that are computed.
use Rattle.std.proofs.Common.{◌≡◌, ℕ, ℤ, pos, List, [], ◌∷◌, refl, true, false, None}
use Rattle.std.specs.Prelude.{codes}
use Rattle.ps_meaning.specs.text_forms.Forms.{forms_of, forms_from, form_here, form_in, begins, element_of, is_text}
use Rattle.ps_code.specs.ps_base.CodeUnit.{UnitView, unit, text, no_constants, constant_then}
use Rattle.ps_code.specs.ps_base.declared.line.Line.{Line}
use Rattle.ps_code.specs.ps_base.declared.trap.Trap.TheVariants as trap
use Rattle.ps_code.specs.ps_base.declared.instr.Instr.TheVariants as instr
use Rattle.ps_heap.specs.Ends.{Trapped}
use Rattle.ps_heap.specs.Objects.{Heap, Structure, Elements, is_class, field_of, with_field, vector_of, filled_vector, with_element, low_of, high_of, is_one_object, element_of as element_at}
use Rattle.ps_heap.specs.Values.{Value, Num, Flag, Text, Nil, Pointer, Vector}
use Rattle.ps_heap.specs.Held.{home_at, touched_after, touched_weight, is_first_touch, places_with, way_out}
use Rattle.ps_heap.proofs.Scenes.{uncommitted}
use Rattle.ps_stepping.specs.Config.{Config}
use Rattle.ps_stepping.specs.Steps.{Stops, Stuck, on}
use Rattle.ps_stepping.specs.Objects.{acts_on_objects}

abbrev line : Line
line = record { 0 = 7 }

abbrev box : List ℕ
box = codes "box(int n;bool full;pntr next)"

abbrev ints : List ℕ
ints = codes "*int"

abbrev strings : List ℕ
strings = codes "*string"

-- a body without locals, whose constants are the texts of a class and of two vectors' types
abbrev code : UnitView
code = unit [] (constant_then (text box) (constant_then (text ints) (constant_then (text strings) no_constants)))
    (record { nums = 0; refs = 0; num_params = 0; ref_params = 0 })

abbrev at : List ℤ → List Value → Heap → Config
at nums refs heap = record {
  unit = code;
  at = 10;
  nums = nums;
  refs = refs;
  locals = record { nums = λ s. pos 0; refs = λ s. Nil };
  scope = None;
  callers = [];
  store = record { turns = 0; input = []; held = uncommitted heap 0 };
}

-- where so many bytes are counted
abbrev counting : ℕ → Config → Config
counting counted c = record c { store = record c.store { held = record c.store.held { counted = counted } } }

-- a full box with 3
abbrev a_box : Heap
a_box = Structure box (Num (pos 3) ∷ Flag true ∷ Nil ∷ []) ∷ []

-- that, a vector of two ints from 5 on, and one of two strings from 1 on
abbrev heap : Heap
heap = Structure box (Num (pos 3) ∷ Flag true ∷ Nil ∷ []) ∷ Elements ints (pos 5) (Num (pos 4) ∷ Num (pos 9) ∷ [])
    ∷ Elements strings (pos 1) (Text (codes "a") ∷ Text (codes "b") ∷ []) ∷ []

-- the values of the fields stand on both stacks, the last one on top
make_takes_each_field : acts_on_objects (instr.Make 0) (at (pos 1 ∷ pos 3 ∷ pos 8 ∷ []) (Nil ∷ []) []) ≡ on
    (counting 72 (at (pos 8 ∷ []) (Pointer 0 ∷ []) a_box))
unfolding forms_of forms_from form_here begins
make_takes_each_field = refl

number_is_read : acts_on_objects (instr.FieldM 0 0 line) (at [] (Pointer 0 ∷ []) heap) ≡ on (at (pos 3 ∷ []) [] heap)
unfolding forms_of forms_from form_here form_in begins field_of home_at touched_after touched_weight is_first_touch places_with way_out
number_is_read = refl

reference_is_read : acts_on_objects (instr.FieldP 0 2 line) (at [] (Pointer 0 ∷ []) heap) ≡ on (at [] (Nil ∷ []) heap)
unfolding forms_of forms_from form_here form_in begins field_of home_at touched_after touched_weight is_first_touch places_with way_out
reference_is_read = refl

-- a reference isn't read as a number
number_of_a_reference : acts_on_objects (instr.FieldM 0 2 line) (at [] (Pointer 0 ∷ []) heap) ≡ Stuck
unfolding forms_of forms_from form_here form_in begins home_at touched_after touched_weight is_first_touch places_with way_out
number_of_a_reference = refl

nil_has_no_field : acts_on_objects (instr.FieldM 0 0 line) (at [] (Nil ∷ []) heap) ≡ Stops (Trapped trap.Nil line) 0
unfolding forms_of forms_from form_here form_in begins field_of home_at touched_after touched_weight is_first_touch places_with way_out
nil_has_no_field = refl

-- a bool is kept as a bool
flag_is_put : acts_on_objects (instr.SetFieldM 0 1 line) (at (pos 0 ∷ []) (Pointer 0 ∷ []) a_box)
    ≡ on (at [] [] (Structure box (Num (pos 3) ∷ Flag false ∷ Nil ∷ []) ∷ []))
unfolding forms_of forms_from form_here form_in begins with_field home_at touched_after touched_weight is_first_touch places_with way_out
flag_is_put = refl

is_a_box : acts_on_objects (instr.Is 0) (at [] (Pointer 0 ∷ []) heap) ≡ on (at (pos 1 ∷ []) [] heap)
unfolding is_class
is_a_box = refl

nil_is_no_box : acts_on_objects (instr.Is 0) (at [] (Nil ∷ []) heap) ≡ on (at (pos 0 ∷ []) [] heap)
unfolding is_class
nil_is_no_box = refl

-- vector 1::2 of 7
each_element_is_filled : acts_on_objects (instr.FillM 1 line) (at (pos 7 ∷ pos 2 ∷ pos 1 ∷ []) [] a_box)
    ≡ on (counting 72 (at [] (Vector 1 ∷ []) (Structure box (Num (pos 3) ∷ Flag true ∷ Nil ∷ []) ∷ Elements ints (pos 1)
    (Num (pos 7) ∷ Num (pos 7) ∷ []) ∷ [])))
unfolding element_of is_text filled_vector vector_of
each_element_is_filled = refl

-- @1 of int [4, 5]
elements_in_their_order : acts_on_objects (instr.ListM 1 2 line) (at (pos 5 ∷ pos 4 ∷ pos 1 ∷ []) [] [])
    ≡ on (counting 72 (at [] (Vector 0 ∷ []) (Elements ints (pos 1) (Num (pos 4) ∷ Num (pos 5) ∷ []) ∷ [])))
unfolding element_of is_text vector_of
elements_in_their_order = refl

element_is_read : acts_on_objects (instr.ElemM line) (at (pos 6 ∷ []) (Vector 1 ∷ []) heap) ≡ on (at (pos 9 ∷ []) [] heap)
unfolding element_of is_text element_at home_at touched_after touched_weight is_first_touch places_with way_out
element_is_read = refl

element_past_the_end : acts_on_objects (instr.ElemM line) (at (pos 7 ∷ []) (Vector 1 ∷ []) heap) ≡ Stops (Trapped trap.Bounds line) 0
unfolding element_of is_text element_at home_at touched_after touched_weight is_first_touch places_with way_out
element_past_the_end = refl

string_is_put : acts_on_objects (instr.SetElemP line)
    (at (pos 1 ∷ []) (Text (codes "c") ∷ Vector 0 ∷ []) (Elements strings (pos 1) (Text (codes "a") ∷ []) ∷ []))
    ≡ on (at [] [] (Elements strings (pos 1) (Text (codes "c") ∷ []) ∷ []))
unfolding element_of is_text with_element home_at touched_after touched_weight is_first_touch places_with way_out
string_is_put = refl

-- the left text stands below
texts_are_joined : acts_on_objects (instr.Join line) (at [] (Text (codes "c") ∷ Text (codes "ab") ∷ []) []) ≡ on
    (counting 48 (at [] (Text (codes "abc") ∷ []) []))
texts_are_joined = refl

-- three bytes of four from the third on
part_past_the_end : acts_on_objects (instr.Part line) (at (pos 3 ∷ pos 3 ∷ []) (Text (codes "abcd") ∷ []) []) ≡ Stops (Trapped trap.Substring line) 0
part_past_the_end = refl

low_is_pushed : acts_on_objects instr.Lwb (at [] (Vector 1 ∷ []) heap) ≡ on (at (pos 5 ∷ []) [] heap)
unfolding low_of
low_is_pushed = refl

high_is_pushed : acts_on_objects instr.Upb (at [] (Vector 1 ∷ []) heap) ≡ on (at (pos 6 ∷ []) [] heap)
unfolding high_of low_of
high_is_pushed = refl

one_object : acts_on_objects instr.EqP (at [] (Vector 1 ∷ Vector 1 ∷ []) heap) ≡ on (at (pos 1 ∷ []) [] heap)
unfolding is_one_object
one_object = refl

-- What isn't of the kind that an instruction wants.
bound_of_a_structure : acts_on_objects instr.Lwb (at [] (Pointer 0 ∷ []) heap) ≡ Stuck
bound_of_a_structure = refl

number_in_a_vector_of_strings : acts_on_objects (instr.ElemM line) (at (pos 1 ∷ []) (Vector 2 ∷ []) heap) ≡ Stuck
unfolding element_of is_text element_at home_at touched_after touched_weight is_first_touch places_with way_out
number_in_a_vector_of_strings = refl

nil_is_no_text : acts_on_objects (instr.Join line) (at [] (Nil ∷ Text (codes "ab") ∷ []) []) ≡ Stuck
nil_is_no_text = refl
