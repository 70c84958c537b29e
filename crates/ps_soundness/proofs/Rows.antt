-- Values of types, typed heaps and texts of classes, computed.
use Rattle.std.proofs.Common.{◌≡◌, ℕ, zero, suc, ◌^◌, List, [], ◌∷◌, inl, inr, refl, subst, pos, negsuc, true}
use Rattle.std.specs.Prelude.{codes}
use Rattle.ps_meaning.specs.ps_base.TyView as types
use Rattle.ps_type_text.specs.Texts.{Field, class_text, IsNamed, is_name_byte}
use Rattle.ps_meaning.specs.ps_program.Node.{none, more}
use Rattle.ps_meaning.specs.ps_program.Node as node
use Rattle.ps_heap.specs.Values.{Num, Flag, Text, Nil, Pointer, Vector, Nothing}
use Rattle.ps_heap.specs.Tables.{by_strings, by_ints}
use Rattle.ps_heap.specs.Objects.{Heap, Object, Structure, Elements, Keyed}
use Rattle.ps_soundness.specs.Running.{IsClassText, HasField, HasAsMany, Runs}
use Rattle.ps_soundness.specs.Shapes.{at_structure, at_table, IsOf, IsTypedObject, IsTypedHeap}
use Rattle.ps_soundness.proofs.Growing.{one_object}

abbrev fields : List Field
fields = record { ty = types.Int; name = codes "n" } ∷ record { ty = types.Pntr; name = codes "next" } ∷ []

abbrev box : List ℕ
box = codes "box(int n;pntr next)"

-- a box with 3 and nil, and a vector of two ints from 5 on
abbrev a_box : Object
a_box = Structure box (Num (pos 3) ∷ Nil ∷ [])

abbrev two_ints : Object
two_ints = Elements (codes "*int") (pos 5) (Num (pos 4) ∷ Num (pos 9) ∷ [])

abbrev heap : Heap
heap = a_box ∷ two_ints ∷ []

int : IsOf heap types.Int (Num (negsuc 41))
int = refl

too_great : IsOf heap types.Int (Num (pos (2 ^ 31))) → ⊥
too_great h = cc

not_an_int : IsOf heap types.Int (Flag true) → ⊥
not_an_int h = h

string : IsOf heap types.Str (Text (codes "abc"))
string = refl

nil : IsOf heap types.Pntr Nil
nil = tt

pointer : IsOf heap types.Pntr (Pointer 0)
pointer = at_structure box (Num (pos 3) ∷ Nil ∷ []) refl

abbrev IsVector : Object → Type 0
IsVector (Elements text low elements) = Unit {0}
IsVector object = ⊥

no_pointer_to_a_vector : IsOf heap types.Pntr (Pointer 1) → ⊥
no_pointer_to_a_vector (at_structure class values is) = subst IsVector (one_object two_ints (Structure class values) is) tt
no_pointer_to_a_vector (at_table table is) = subst IsVector (one_object two_ints (Keyed table) is) tt

-- a table by strings, with the box under a key
abbrev with_a_table : Heap
with_a_table = a_box ∷ Keyed (by_strings (record { key = codes "k"; object = 0 } ∷ [])) ∷ []

pointer_to_a_table : IsOf with_a_table types.Pntr (Pointer 1)
pointer_to_a_table = at_table (by_strings (record { key = codes "k"; object = 0 } ∷ [])) refl

table_is_typed : IsTypedObject with_a_table (Keyed (by_strings (record { key = codes "k"; object = 0 } ∷ [])))
table_is_typed = (((refl, at_structure box (Num (pos 3) ∷ Nil ∷ []) refl), tt), tt)

-- what is under a key is there
nothing_under_a_key : IsTypedObject with_a_table (Keyed (by_ints (record { key = pos 1; object = 2 } ∷ []))) → ⊥
nothing_under_a_key (((e, at_structure class values is), rest), tabled) = cc
nothing_under_a_key (((e, at_table table is), rest), tabled) = cc

vector : IsOf heap (types.Vector types.Int) (Vector 1)
vector = record { low = pos 5; elements = Num (pos 4) ∷ Num (pos 9) ∷ []; is = refl }

nothing : IsOf heap types.Void Nothing
nothing = tt

named : IsNamed (codes "box") fields
unfolding is_name_byte
named = record { class = (refl, (refl, (refl, tt))); each = ((refl, tt), ((refl, (refl, (refl, (refl, tt)))), tt)) }

typed_heap : IsTypedHeap heap
typed_heap zero object e = subst (IsTypedObject heap) (one_object a_box object e)
    (record { name = codes "box"; fields = fields; named = named; class_is = refl; nonvoid = (refl, (refl, tt)); are = (refl, (tt, tt)) })
typed_heap (suc zero) object e = subst (IsTypedObject heap) (one_object two_ints object e)
    (record { element = types.Int; nonvoid = refl; text_is = refl; low_is = refl; fits = refl; are = (refl, (refl, tt)) })
typed_heap (suc (suc id)) object e = absurd cc

box_class : IsClassText box
box_class = record { name = codes "box"; fields = fields; named = named; text_is = refl; valued = (tt, (tt, tt)) }

-- the text tells its second field, and how many there are
second_field : HasField box 1 types.Pntr
unfolding box_class
second_field = record { class = box_class; at = inr (0, refl, inl (refl, refl)) }

two_values : HasAsMany box (more (node.Int (pos 3)) (more node.Nil none))
unfolding box_class
two_values = record { class = box_class; are = tt }

made : Runs (node.Make box (more (node.Int (pos 3)) (more node.Nil none)))
made = (two_values, (refl, (tt, tt)))

-- with a name that is none of a text it can be read as a class of one field
another_reading : box ≡ class_text (codes "box") (record { ty = types.Int; name = codes "n;pntr next" } ∷ [])
another_reading = refl
