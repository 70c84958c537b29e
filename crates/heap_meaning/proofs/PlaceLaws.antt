-- What is so of objects that stand for others: their shape, and the values of their places.
use Rattle.std.proofs.Common.{arith, ◌≡◌, ℕ, suc, ◌+◌, List, [], ◌∷◌, ◌++◌, length, get_or, slice_index, refl, sym, ap, ◌∙◌, subst, Some, None, if◌then◌else◌}
use Rattle.std.proofs.lemmas.Bool.{eq-eqb}
use Rattle.proc_values.specs.obj_layout.Kind.{kind_number}
use Rattle.proc_values.specs.obj_layout.declared.kind.Kind.{Kind}
use Rattle.proc_values.specs.obj_layout.declared.kind.Kind.TheVariants as kind
use Rattle.proc_values.specs.obj_layout.declared.reference.Reference as reference
use Rattle.proc_values.specs.obj_layout.declared.reference.Reference.TheVariants as name
use Rattle.proc_values.specs.swizzle.Heap.{Heap}
use Rattle.proc_values.specs.swizzle.Joint.{Shown}
use Rattle.proc_values.specs.text_forms.declared.forms.Form.{Form}
use Rattle.proc_values.specs.text_forms.declared.forms.Form.TheVariants as form
use Rattle.proc_values.specs.text_forms.Forms.{forms_of, form_in, before_in, rows_of, is_number_form}
use Rattle.heap_ops.specs.heap_places.Shapes.{IsText, slot_of, word_in, shape_damage}
use Rattle.heap_ops.specs.heap_places.Words.{word_damage}
use Rattle.heap_ops.specs.heap_places.Places.{Holds}
use Rattle.heap_ops.specs.heap_places.declared.value.Value as code
use Rattle.heap_ops.specs.heap_places.declared.value.Value.TheVariants as held
use Rattle.proc_values.specs.ps_heap.Values.{Value, Num, Flag, Text, Nil, Pointer, Vector, Procedure, Nothing}
use Rattle.heap_meaning.specs.Standing.{Seen, Pairing, StandsFor, IsWordOf, AreFor, IsAs, IsStructure, IsOne}
use Rattle.heap_meaning.specs.Denoting.{IsFor}
use Rattle.heap_meaning.proofs.StandingLaws.{IsNumber, read-reference, read-word}

-- a name is that of one text
pub text-one : (seen : Seen) (n : reference.Reference) (a b : List ℕ) → IsOne seen → IsText seen n a → IsText seen n b → a ≡ b
text-one seen n a b one s t = sym s.bytes_are ∙ ap Rattle.heap_ops.specs.heap_places.Shapes.shown_text (one n s.it t.it s.there t.there) ∙ t.bytes_are

-- the rows are as long as the forms say
pub are-refs : (seen : Seen) (pair : Pairing) (forms : List Form) (ns : List reference.Reference) (words : List ℕ) (vs : List Value) → AreFor seen pair forms ns words vs → length ns ≡ (rows_of forms).refs
unfolding rows_of
are-refs seen pair (form.Reference ∷ forms) (n ∷ ns) words (v ∷ vs) a = omega (arith, are-refs seen pair forms ns words vs a.1)
are-refs seen pair (form.Reference ∷ forms) (n ∷ ns) words [] a = absurd a
are-refs seen pair (form.Reference ∷ forms) [] words vs a = absurd a
are-refs seen pair (form.Number ∷ forms) ns (word ∷ words) (v ∷ vs) a = are-refs seen pair forms ns words vs a.1
are-refs seen pair (form.Number ∷ forms) ns (word ∷ words) [] a = absurd a
are-refs seen pair (form.Number ∷ forms) ns [] vs a = absurd a
are-refs seen pair (form.Flag ∷ forms) ns (word ∷ words) (v ∷ vs) a = are-refs seen pair forms ns words vs a.1
are-refs seen pair (form.Flag ∷ forms) ns (word ∷ words) [] a = absurd a
are-refs seen pair (form.Flag ∷ forms) ns [] vs a = absurd a
are-refs seen pair [] [] [] [] a = refl
are-refs seen pair [] [] [] (v ∷ vs) a = absurd a
are-refs seen pair [] [] (word ∷ words) vs a = absurd a
are-refs seen pair [] (n ∷ ns) words vs a = absurd a

pub are-words : (seen : Seen) (pair : Pairing) (forms : List Form) (ns : List reference.Reference) (words : List ℕ) (vs : List Value) → AreFor seen pair forms ns words vs → length words ≡ (rows_of forms).nums
unfolding rows_of
are-words seen pair (form.Reference ∷ forms) (n ∷ ns) words (v ∷ vs) a = are-words seen pair forms ns words vs a.1
are-words seen pair (form.Reference ∷ forms) (n ∷ ns) words [] a = absurd a
are-words seen pair (form.Reference ∷ forms) [] words vs a = absurd a
are-words seen pair (form.Number ∷ forms) ns (word ∷ words) (v ∷ vs) a = omega (arith, are-words seen pair forms ns words vs a.1)
are-words seen pair (form.Number ∷ forms) ns (word ∷ words) [] a = absurd a
are-words seen pair (form.Number ∷ forms) ns [] vs a = absurd a
are-words seen pair (form.Flag ∷ forms) ns (word ∷ words) (v ∷ vs) a = omega (arith, are-words seen pair forms ns words vs a.1)
are-words seen pair (form.Flag ∷ forms) ns (word ∷ words) [] a = absurd a
are-words seen pair (form.Flag ∷ forms) ns [] vs a = absurd a
are-words seen pair [] [] [] [] a = refl
are-words seen pair [] [] [] (v ∷ vs) a = absurd a
are-words seen pair [] [] (word ∷ words) vs a = absurd a
are-words seen pair [] (n ∷ ns) words vs a = absurd a

-- Objects without damage.

pub shape : (it : Shown) (of : Kind) (refs nums : ℕ) → it.kind ≡ of → length it.refs ≡ refs → length it.nums ≡ nums → shape_damage it of refs nums ≡ None
unfolding shape_damage
shape it of refs nums k r n = simp (eq-eqb (kind_number it.kind) (kind_number of) (ap kind_number k), eq-eqb (length it.refs) refs r, eq-eqb (length it.nums) nums n) refl

-- A structure that stands for one has the shape of its class.
pub structure-shape : (seen : Seen) (pair : Pairing) (it : Shown) (class : List ℕ) (fields : List Value) → IsStructure seen pair it class fields
    → shape_damage it kind.Structure (1 + (rows_of (forms_of class)).refs) (1 + (rows_of (forms_of class)).nums) ≡ None
structure-shape seen pair it class fields s =
    shape it kind.Structure (1 + (rows_of (forms_of class)).refs) (1 + (rows_of (forms_of class)).nums) s.kind_is
    (ap length s.refs ∙ omega (arith, are-refs seen pair (forms_of class) s.names s.words fields s.are))
    (ap length s.nums ∙ omega (arith, are-words seen pair (forms_of class) s.names s.words fields s.are))

-- its class is the one whose text it refers to
pub structure-class : (seen : Seen) (pair : Pairing) (it : Shown) (class text : List ℕ) (fields : List Value) → IsOne seen → IsStructure seen pair it class fields → IsText seen (slot_of it 0) text → class ≡ text
structure-class seen pair it class text fields one s t =
    text-one seen s.text_name class text one s.is_text (subst (λ (r : List reference.Reference). IsText seen (get_or r 0 name.Nil) text) s.refs t)

-- a word that stands for a value is one of its form
pub word-fits : (word : ℕ) (f : Form) (v : Value) → IsWordOf word f v → word_damage f word ≡ None
unfolding word_damage
word-fits word form.Number (Num z) w = simp (w) refl
word-fits word form.Flag (Flag b) w = simp (w) refl
word-fits word form.Reference v w = absurd w
word-fits word form.Number (Flag b) w = absurd w
word-fits word form.Number (Text b) w = absurd w
word-fits word form.Number Nil w = absurd w
word-fits word form.Number (Pointer i) w = absurd w
word-fits word form.Number (Vector i) w = absurd w
word-fits word form.Number (Procedure b s) w = absurd w
word-fits word form.Number Nothing w = absurd w
word-fits word form.Flag (Num b) w = absurd w
word-fits word form.Flag (Text b) w = absurd w
word-fits word form.Flag Nil w = absurd w
word-fits word form.Flag (Pointer i) w = absurd w
word-fits word form.Flag (Vector i) w = absurd w
word-fits word form.Flag (Procedure b s) w = absurd w
word-fits word form.Flag Nothing w = absurd w

-- What is read of a place denotes the value there.
pub word-read : (heap : Heap) (seen : Seen) (pair : Pairing) (it : Shown) (f : Form) (index : ℕ) (c : code.Value) (v : Value) → IsNumber f → Holds heap it f index c → IsWordOf (word_in it index) f v → IsFor heap seen pair c v
unfolding IsNumber
word-read heap seen pair it form.Number index (held.Num z) (Num w) number h is = let same : Some z ≡ Some w = sym h ∙ is in cc
word-read heap seen pair it form.Flag index (held.Flag b) (Flag c) number h is = let same : Some b ≡ Some c = sym h ∙ is in cc
word-read heap seen pair it form.Number index (held.Num z) (Flag b) number h is = absurd is
word-read heap seen pair it form.Number index (held.Num z) (Text b) number h is = absurd is
word-read heap seen pair it form.Number index (held.Num z) Nil number h is = absurd is
word-read heap seen pair it form.Number index (held.Num z) (Pointer i) number h is = absurd is
word-read heap seen pair it form.Number index (held.Num z) (Vector i) number h is = absurd is
word-read heap seen pair it form.Number index (held.Num z) (Procedure b s) number h is = absurd is
word-read heap seen pair it form.Number index (held.Num z) Nothing number h is = absurd is
word-read heap seen pair it form.Flag index (held.Flag z) (Num b) number h is = absurd is
word-read heap seen pair it form.Flag index (held.Flag z) (Text b) number h is = absurd is
word-read heap seen pair it form.Flag index (held.Flag z) Nil number h is = absurd is
word-read heap seen pair it form.Flag index (held.Flag z) (Pointer i) number h is = absurd is
word-read heap seen pair it form.Flag index (held.Flag z) (Vector i) number h is = absurd is
word-read heap seen pair it form.Flag index (held.Flag z) (Procedure b s) number h is = absurd is
word-read heap seen pair it form.Flag index (held.Flag z) Nothing number h is = absurd is
word-read heap seen pair it form.Number index (held.Flag b) v number h is = absurd h
word-read heap seen pair it form.Number index (held.Ref to) v number h is = absurd h
word-read heap seen pair it form.Flag index (held.Num z) v number h is = absurd h
word-read heap seen pair it form.Flag index (held.Ref to) v number h is = absurd h
word-read heap seen pair it form.Reference index c v number h is = absurd number

pub name-read : (heap : Heap) (seen : Seen) (pair : Pairing) (it : Shown) (index : ℕ) (c : code.Value) (v : Value) → Holds heap it form.Reference index c → StandsFor seen pair (slot_of it index) v → IsFor heap seen pair c v
name-read heap seen pair it index (held.Ref to) v h s = record { name = slot_of it index; denotes = h; stands = s }
name-read heap seen pair it index (held.Num z) v h s = absurd h
name-read heap seen pair it index (held.Flag b) v h s = absurd h

-- words after the first ones
get-behind : (front words : List ℕ) (k : ℕ) → slice_index (front ++ words) (length front + k) ≡ slice_index words k
get-behind [] words k = let e : 0 + k ≡ k = omega arith in ap (slice_index words) e
get-behind (w ∷ ws) words k =
    let e : length (w ∷ ws) + k ≡ suc (length ws + k) = omega arith in
    ap (slice_index ((w ∷ ws) ++ words)) e ∙ get-behind ws words k

pub word-behind : (it : Shown) (front words : List ℕ) (before k : ℕ) → length front ≡ before → it.nums ≡ front ++ words → slice_index words k ≡ word_in it (before + k)
word-behind it front words before k long is = sym (ap (λ (l : List ℕ). slice_index l (before + k)) is ∙ ap (λ (b : ℕ). slice_index (front ++ words) (b + k)) (sym long) ∙ get-behind front words k)

-- one of the row stands before
step : (n : ℕ) → suc n ≡ 1 + n
step n = omega arith

-- the value of a place of an object
pub as-read : (heap : Heap) (seen : Seen) (pair : Pairing) (it : Shown) (of : Kind) (text : List ℕ) (first : ℕ → List ℕ) (forms : List Form) (vs : List Value) (n before : ℕ) (f : Form) (c : code.Value)
    → (a : IsAs seen pair it of text first forms vs) → length (first a.home) ≡ before → form_in forms n ≡ Some f
    → Holds heap it f (if is_number_form f then before + before_in f forms n else 1 + before_in f forms n) c → IsFor heap seen pair c (get_or vs n Nothing)
unfolding IsNumber
as-read heap seen pair it of text first forms vs n before form.Reference c a long is h =
    let s = read-reference seen pair forms a.names a.words vs n a.are is in
    name-read heap seen pair it (1 + before_in form.Reference forms n) c (get_or vs n Nothing) h
    (subst (λ (r : List reference.Reference). StandsFor seen pair (get_or r (1 + before_in form.Reference forms n) name.Nil) (get_or vs n Nothing)) (sym a.refs)
    (subst (λ (k : ℕ). StandsFor seen pair (get_or (a.text_name ∷ a.names) k name.Nil) (get_or vs n Nothing)) (step (before_in form.Reference forms n)) s))
as-read heap seen pair it of text first forms vs n before form.Number c a long is h =
    word-read heap seen pair it form.Number (before + before_in form.Number forms n) c (get_or vs n Nothing) tt h
    (subst (λ (k : ℕ). IsWordOf k form.Number (get_or vs n Nothing)) (word-behind it (first a.home) a.words before (before_in form.Number forms n) long a.nums)
    (read-word seen pair form.Number forms a.names a.words vs n tt a.are is))
as-read heap seen pair it of text first forms vs n before form.Flag c a long is h =
    word-read heap seen pair it form.Flag (before + before_in form.Flag forms n) c (get_or vs n Nothing) tt h
    (subst (λ (k : ℕ). IsWordOf k form.Flag (get_or vs n Nothing)) (word-behind it (first a.home) a.words before (before_in form.Flag forms n) long a.nums)
    (read-word seen pair form.Flag forms a.names a.words vs n tt a.are is))
