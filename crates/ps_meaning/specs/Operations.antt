-- What operations on structures, vectors, texts and values do, and the calls of the library.
use Rattle.std.specs.Prelude.{ℕ, pos, Bool, not, List, [], ◌∷◌, length, map, Option, Some, None, if◌then◌else◌}
use Rattle.std.specs.Fmt.{signed_decimal}
use Rattle.std.specs.Ordering.{is_eq, is_lt, is_gt}
use Rattle.ps_base.specs.TyView.{TyView}
use Rattle.ps_base.specs.TyView as ty
use Rattle.ps_base.specs.declared.line.Line.{Line}
use Rattle.ps_base.specs.declared.operator.Relation.{Relation}
use Rattle.ps_base.specs.declared.operator.Relation.TheVariants.{Equal, NotEqual, Less, LessEqual, Greater, GreaterEqual}
use Rattle.text_forms.specs.declared.forms.Form.{Form}
use Rattle.text_forms.specs.Forms.{forms_of, form_in, element_of}
use Rattle.ps_heap.specs.Operators.{relation_of}
use Rattle.ps_heap.specs.Values.{Value, Num, Flag, Pointer, Vector, Nothing, word_of, bytes_of}
use Rattle.ps_heap.specs.Texts.{join_of, part_of, order_of, line_read, behind_line, is_at_end}
pub use Rattle.ps_heap.specs.Objects.{kept_as}
use Rattle.ps_heap.specs.Objects.{Structure, field_of, with_field, vector_of, filled_vector, vector_in, type_in, with_element, low_of, high_of, is_one_object, id_of, value_at, element_of as element_at}
use Rattle.ps_heap.specs.Held as held
use Rattle.ps_heap.specs.Held.{element_place}
use Rattle.ps_heap.specs.Library.{LibraryProcedure, OnHeap, ReadLine, AtEnd, Length, IntText, text_argument, heap_call}
use Rattle.ps_meaning.specs.Meaning.{Meaning, give, ◌>>=◌, attempt, with_heap, read, assign, answered, made, made_text, with_input, put_input}

-- the values of fields, each as it is kept
unfoldable pub kept_all : List Form → List Value → List Value
kept_all [] vs = vs
kept_all (form ∷ forms) [] = []
kept_all (form ∷ forms) (v ∷ vs) = kept_as (Some form) v ∷ kept_all forms vs

-- the elements of a vector, each as it is kept
abbrev pub kept_elements : List ℕ → List Value → List Value
kept_elements text vs = map (kept_as (Some (element_of text))) vs

-- a structure of a class, a vector of elements, a vector of one value
abbrev pub make_meant : List ℕ → List Value → Meaning
make_meant class vs = made Pointer (Structure class (kept_all (forms_of class) vs))

abbrev pub elements_meant : Line → List ℕ → Value → List Value → Meaning
elements_meant line text low vs = attempt line (vector_of text (word_of low) (kept_elements text vs)) (made Vector)

abbrev pub fill_meant : Line → List ℕ → Value → Value → Value → Meaning
fill_meant line text low high v = attempt line (filled_vector text (word_of low) (word_of high) (kept_as (Some (element_of text)) v)) (made Vector)

-- Fields and elements, read and written.
abbrev pub field_meant : Line → List ℕ → ℕ → Value → Meaning
field_meant line class n o = with_heap (λ heap. attempt line (field_of heap o class n) read)

abbrev pub set_field_meant : Line → List ℕ → ℕ → Value → Value → Meaning
set_field_meant line class n o v =
    with_heap (λ heap. attempt line (with_field heap o class n (kept_as (form_in (forms_of class) n) v)) (assign (held.Part (id_of o) n)))

abbrev pub element_meant : Line → Value → Value → Meaning
element_meant line v i = with_heap (λ heap. attempt line (element_at heap v (word_of i)) read)

abbrev pub set_element_meant : Line → Value → Value → Value → Meaning
set_element_meant line v i e =
    with_heap (λ heap. attempt line (with_element heap v (word_of i) (kept_as (Some (element_of (type_in (vector_in heap v)))) e))
    (assign (element_place heap v (word_of i))))

abbrev pub bound_meant : Bool → Value → Meaning
bound_meant upper v = with_heap (λ heap. give (Num (if upper then high_of heap v else low_of heap v)))

-- Texts.
abbrev pub join_meant : Line → Value → Value → Meaning
join_meant line v w = attempt line (join_of (bytes_of v) (bytes_of w)) made_text

abbrev pub part_meant : Line → Value → Value → Value → Meaning
part_meant line v i n = attempt line (part_of (bytes_of v) (word_of i) (word_of n)) made_text

-- whether two texts stand in a relation
abbrev pub text_relation : Relation → List ℕ → List ℕ → Bool
text_relation Equal a b = is_eq (order_of a b)
text_relation NotEqual a b = not (is_eq (order_of a b))
text_relation Less a b = is_lt (order_of a b)
text_relation LessEqual a b = not (is_gt (order_of a b))
text_relation Greater a b = is_gt (order_of a b)
text_relation GreaterEqual a b = not (is_lt (order_of a b))

-- whether two values are one object; structures and vectors know no other relation
abbrev pub object_relation : Relation → Value → Value → Bool
object_relation NotEqual v w = not (is_one_object v w)
object_relation _ v w = is_one_object v w

-- Whether two values of a type stand in a relation: ints and bools by their numbers, strings by their bytes, all else by identity.
abbrev pub compares : Relation → TyView → Value → Value → Bool
compares op ty.Int v w = relation_of op (word_of v) (word_of w)
compares op ty.Bool v w = relation_of op (word_of v) (word_of w)
compares op ty.Str v w = text_relation op (bytes_of v) (bytes_of w)
compares op _ v w = object_relation op v w

-- whether two values of the type that a `case` is over are equal
abbrev pub is_equal : TyView → Value → Value → Bool
is_equal ty v w = compares Equal ty v w

-- the next line of the input, which is passed over with its newline
unfoldable pub read_line : Line → Meaning
read_line line = with_input (λ input. attempt line (line_read input) (λ bytes. put_input (behind_line input) >>= λ u. made_text bytes))

-- whether nothing of the input is left
unfoldable pub at_end : Meaning
at_end = with_input (λ input. give (Flag (is_at_end input)))

-- A call of the library; no program has one of another number.
abbrev pub lib_meant : Line → Option LibraryProcedure → List Value → Meaning
lib_meant line (Some (OnHeap of)) args = answered line (heap_call of args)
lib_meant line (Some ReadLine) args = read_line line
lib_meant line (Some AtEnd) args = at_end
lib_meant line (Some Length) args = give (Num (pos (length (text_argument args 0))))
lib_meant line (Some IntText) args = made_text (signed_decimal (word_of (value_at args 0)))
lib_meant line None args = give Nothing
