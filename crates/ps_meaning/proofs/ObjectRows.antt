-- The operators on texts, structures and vectors, computed.
use Rattle.std.proofs.Common.{◌≡◌, ℕ, List, [], ◌∷◌, refl, pos, true, false}
use Rattle.std.specs.Prelude.{codes, negsuc}
use Rattle.std.specs.declared.cmp.Ordering.TheVariants.{Less, Greater}
use Rattle.ps_base.specs.declared.trap.Trap.TheVariants as trap
use Rattle.ps_heap.specs.Values.{Num, Flag, Nil, Pointer, Vector}
use Rattle.ps_heap.specs.Texts.{Yields, Fails, join_of, part_of, order_of, is_same_text}
use Rattle.ps_heap.specs.Objects.{Heap, Structure, Elements, is_class, field_of, with_field, vector_of, filled_vector, element_of, with_element, low_of, high_of, is_one_object}

joined : join_of (codes "ab") (codes "c") ≡ Yields (codes "abc")
joined = refl

part : part_of (codes "abcd") (pos 2) (pos 2) ≡ Yields (codes "bc")
part = refl

part_to_the_end : part_of (codes "abcd") (pos 2) (pos 3) ≡ Yields (codes "bcd")
part_to_the_end = refl

empty_part_behind : part_of (codes "abcd") (pos 5) (pos 0) ≡ Yields []
empty_part_behind = refl

part_past_the_end : part_of (codes "abcd") (pos 2) (pos 4) ≡ Fails trap.Substring
part_past_the_end = refl

empty_part_past : part_of (codes "abcd") (pos 6) (pos 0) ≡ Fails trap.Substring
empty_part_past = refl

part_from_zero : part_of (codes "abcd") (pos 0) (pos 1) ≡ Fails trap.Substring
part_from_zero = refl

part_of_less_than_none : part_of (codes "abcd") (pos 1) (negsuc 0) ≡ Fails trap.Substring
part_of_less_than_none = refl

a_front_is_less : order_of (codes "ab") (codes "abc") ≡ Less
a_front_is_less = refl

first_difference : order_of (codes "b") (codes "abc") ≡ Greater
first_difference = refl

same : is_same_text (codes "abc") (codes "abc") ≡ true
same = refl

abbrev box : List ℕ
box = codes "box(int n;pntr next)"

-- a box with 3 and nil, and a vector of two ints from 5 on
abbrev heap : Heap
heap = Structure box (Num (pos 3) ∷ Nil ∷ []) ∷ Elements (codes "*int") (pos 5) (Num (pos 4) ∷ Num (pos 9) ∷ []) ∷ []

is_box : is_class heap (Pointer 0) box ≡ true
unfolding is_class
is_box = refl

nil_is_none : is_class heap Nil box ≡ false
unfolding is_class
nil_is_none = refl

field : field_of heap (Pointer 0) box 0 ≡ Yields (Num (pos 3))
unfolding field_of
field = refl

field_of_nil : field_of heap Nil box 0 ≡ Fails trap.Nil
unfolding field_of
field_of_nil = refl

field_of_another : field_of heap (Pointer 0) (codes "box(int n)") 0 ≡ Fails trap.WrongClass
unfolding field_of
field_of_another = refl

field_put : with_field heap (Pointer 0) box 1 (Pointer 0) ≡ Yields (Structure box (Num (pos 3) ∷ Pointer 0 ∷ []) ∷ Elements (codes "*int") (pos 5) (Num (pos 4) ∷ Num (pos 9) ∷ []) ∷ [])
unfolding with_field
field_put = refl

element : element_of heap (Vector 1) (pos 6) ≡ Yields (Num (pos 9))
unfolding element_of
element = refl

element_below : element_of heap (Vector 1) (pos 4) ≡ Fails trap.Bounds
unfolding element_of
element_below = refl

element_above : element_of heap (Vector 1) (pos 7) ≡ Fails trap.Bounds
unfolding element_of
element_above = refl

element_put : with_element heap (Vector 1) (pos 5) (Num (pos 1)) ≡ Yields (Structure box (Num (pos 3) ∷ Nil ∷ []) ∷ Elements (codes "*int") (pos 5) (Num (pos 1) ∷ Num (pos 9) ∷ []) ∷ [])
unfolding with_element
element_put = refl

low : low_of heap (Vector 1) ≡ pos 5
unfolding low_of
low = refl

high : high_of heap (Vector 1) ≡ pos 6
unfolding high_of low_of
high = refl

one_element : filled_vector (codes "*bool") (negsuc 2147483647) (negsuc 2147483647) (Flag true) ≡ Yields (Elements (codes "*bool") (negsuc 2147483647) (Flag true ∷ []))
unfolding filled_vector vector_of
one_element = refl

bounds_turned : filled_vector (codes "*bool") (pos 3) (pos 2) (Flag true) ≡ Fails trap.Bounds
unfolding filled_vector vector_of
bounds_turned = refl

past_the_ints : vector_of (codes "*int") (pos 2147483647) (Num (pos 1) ∷ Num (pos 2) ∷ []) ≡ Fails trap.Bounds
unfolding vector_of
past_the_ints = refl

at_the_last_int : vector_of (codes "*int") (pos 2147483646) (Num (pos 1) ∷ Num (pos 2) ∷ []) ≡ Yields (Elements (codes "*int") (pos 2147483646) (Num (pos 1) ∷ Num (pos 2) ∷ []))
unfolding vector_of
at_the_last_int = refl

the_same_object : is_one_object (Pointer 3) (Pointer 3) ≡ true
unfolding is_one_object
the_same_object = refl

another_object : is_one_object (Vector 3) (Vector 4) ≡ false
unfolding is_one_object
another_object = refl

nil_is_nil : is_one_object Nil Nil ≡ true
unfolding is_one_object
nil_is_nil = refl
