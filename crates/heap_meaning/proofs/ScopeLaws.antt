-- A scope that stands for one of the meaning: its shape, what is read of its names, what is written to them, and one that is made.
use Rattle.std.proofs.Common.{arith, ◌≡◌, ℕ, suc, ◌+◌, List, [], ◌∷◌, length, map, replicate, get_or, set, slice_set, refl, sym, ap, ◌∙◌, subst, Option, Some, None, if◌then◌else◌}
use Rattle.proc_values.specs.obj_layout.declared.kind.Kind.TheVariants as kind
use Rattle.proc_values.specs.obj_layout.declared.reference.Reference as reference
use Rattle.proc_values.specs.obj_layout.declared.reference.Reference.TheVariants as name
use Rattle.proc_values.specs.swizzle.Heap.{Heap, reference_to}
use Rattle.proc_values.specs.swizzle.Joint.{Shown, name_of}
use Rattle.proc_values.specs.text_forms.declared.forms.Form.{Form}
use Rattle.proc_values.specs.text_forms.declared.forms.Form.TheVariants as form
use Rattle.proc_values.specs.text_forms.Forms.{forms_of, form_in, before_in, rows_of, is_number_form}
use Rattle.heap_ops.specs.heap_places.Shapes.{word_in, slot_of, shape_damage}
use Rattle.heap_ops.specs.heap_places.Words.{int_in, flag_in, int_word, flag_word, word_damage}
use Rattle.heap_ops.specs.heap_places.Places.{Holds}
use Rattle.heap_ops.specs.heap_places.declared.value.Value as code
use Rattle.heap_ops.specs.heap_places.declared.value.Value.TheVariants as held
use Rattle.proc_values.specs.ps_heap.Values.{Value, Nothing}
use Rattle.proc_values.specs.ps_heap.Scopes.{first_value}
use Rattle.heap_meaning.specs.Standing.{Seen, Pairing, StandsFor, IsWordOf, AreFor, IsScope}
use Rattle.heap_meaning.specs.Denoting.{IsFor}
use Rattle.heap_meaning.proofs.StandingLaws.{IsNumber, read-reference, read-word, write-reference, write-word}
use Rattle.heap_meaning.proofs.PlaceLaws.{shape, are-refs, are-words, word-fits, word-read, name-read, word-behind}
use Rattle.heap_meaning.proofs.WriteLaws.{set-behind}
use Rattle.heap_meaning.proofs.GivenLaws.{shown_with, IsStored}

-- the index of a name's place in its row: after the home, or after the text and the parent
abbrev pub index_behind : Form → ℕ → ℕ
index_behind f n = if is_number_form f then 1 + n else 2 + n

two : (n : ℕ) → suc (suc n) ≡ 2 + n
two n = omega arith

more : (n : ℕ) → suc n ≡ n + 1
more n = omega arith

-- A scope that stands for one has the shape that its text tells.
pub scope-shape : (seen : Seen) (pair : Pairing) (it : Shown) (text : List ℕ) (parent : Option ℕ) (vs : List Value) → IsScope seen pair it text parent vs
    → shape_damage it kind.Scope (2 + (rows_of (forms_of text)).refs) (1 + (rows_of (forms_of text)).nums) ≡ None
scope-shape seen pair it text parent vs s =
    shape it kind.Scope (2 + (rows_of (forms_of text)).refs) (1 + (rows_of (forms_of text)).nums) s.kind_is
    (ap length s.refs ∙ omega (arith, are-refs seen pair (forms_of text) s.names s.words vs s.are))
    (ap length s.nums ∙ omega (arith, are-words seen pair (forms_of text) s.names s.words vs s.are))

-- its parent's name
pub scope-parent : (seen : Seen) (pair : Pairing) (it : Shown) (text : List ℕ) (parent : Option ℕ) (vs : List Value) → (s : IsScope seen pair it text parent vs) → slot_of it 1 ≡ s.parent_name
scope-parent seen pair it text parent vs s = ap (λ (r : List reference.Reference). get_or r 1 name.Nil) s.refs

-- The word of a name.
scope-word : (seen : Seen) (pair : Pairing) (it : Shown) (text : List ℕ) (parent : Option ℕ) (vs : List Value) (n : ℕ) (f : Form) → IsNumber f → IsScope seen pair it text parent vs
    → form_in (forms_of text) n ≡ Some f → IsWordOf (word_in it (1 + before_in f (forms_of text) n)) f (get_or vs n Nothing)
scope-word seen pair it text parent vs n f number s is =
    subst (λ (k : ℕ). IsWordOf k f (get_or vs n Nothing)) (word-behind it (s.home ∷ []) s.words 1 (before_in f (forms_of text) n) refl s.nums)
    (read-word seen pair f (forms_of text) s.names s.words vs n number s.are is)

-- and the reference
pub scope-name : (seen : Seen) (pair : Pairing) (it : Shown) (text : List ℕ) (parent : Option ℕ) (vs : List Value) (n : ℕ) → IsScope seen pair it text parent vs
    → form_in (forms_of text) n ≡ Some form.Reference → StandsFor seen pair (slot_of it (2 + before_in form.Reference (forms_of text) n)) (get_or vs n Nothing)
scope-name seen pair it text parent vs n s is =
    let at = before_in form.Reference (forms_of text) n in
    subst (λ (r : List reference.Reference). StandsFor seen pair (get_or r (2 + at) name.Nil) (get_or vs n Nothing)) (sym s.refs)
    (subst (λ (k : ℕ). StandsFor seen pair (get_or (s.text_name ∷ s.parent_name ∷ s.names) k name.Nil) (get_or vs n Nothing)) (two at)
    (read-reference seen pair (forms_of text) s.names s.words vs n s.are is))

-- The value of a name.
pub scope-read : (heap : Heap) (seen : Seen) (pair : Pairing) (it : Shown) (text : List ℕ) (parent : Option ℕ) (vs : List Value) (n : ℕ) (f : Form) (c : code.Value) → IsScope seen pair it text parent vs
    → form_in (forms_of text) n ≡ Some f → Holds heap it f (index_behind f (before_in f (forms_of text) n)) c → IsFor heap seen pair c (get_or vs n Nothing)
unfolding IsNumber
scope-read heap seen pair it text parent vs n form.Reference c s is h =
    name-read heap seen pair it (2 + before_in form.Reference (forms_of text) n) c (get_or vs n Nothing) h (scope-name seen pair it text parent vs n s is)
scope-read heap seen pair it text parent vs n form.Number c s is h =
    word-read heap seen pair it form.Number (1 + before_in form.Number (forms_of text) n) c (get_or vs n Nothing) tt h (scope-word seen pair it text parent vs n form.Number tt s is)
scope-read heap seen pair it text parent vs n form.Flag c s is h =
    word-read heap seen pair it form.Flag (1 + before_in form.Flag (forms_of text) n) c (get_or vs n Nothing) tt h (scope-word seen pair it text parent vs n form.Flag tt s is)

-- What is kept under a name fits its form.
pub scope-fits : (seen : Seen) (pair : Pairing) (it : Shown) (text : List ℕ) (parent : Option ℕ) (vs : List Value) (n : ℕ) (f : Form) → IsScope seen pair it text parent vs
    → form_in (forms_of text) n ≡ Some f → word_damage f (word_in it (index_behind f (before_in f (forms_of text) n))) ≡ None
unfolding IsNumber word_damage
scope-fits seen pair it text parent vs n form.Reference s is = refl
scope-fits seen pair it text parent vs n form.Number s is =
    word-fits (word_in it (1 + before_in form.Number (forms_of text) n)) form.Number (get_or vs n Nothing) (scope-word seen pair it text parent vs n form.Number tt s is)
scope-fits seen pair it text parent vs n form.Flag s is =
    word-fits (word_in it (1 + before_in form.Flag (forms_of text) n)) form.Flag (get_or vs n Nothing) (scope-word seen pair it text parent vs n form.Flag tt s is)

-- A name was written.

put-name : (seen : Seen) (pair : Pairing) (it : Shown) (text : List ℕ) (parent : Option ℕ) (vs : List Value) (n : ℕ) (m : reference.Reference) (v : Value) → IsScope seen pair it text parent vs
    → form_in (forms_of text) n ≡ Some form.Reference → StandsFor seen pair m v
    → IsScope seen pair (record it { refs = set it.refs (2 + before_in form.Reference (forms_of text) n) m }) text parent (set vs n v)
put-name seen pair it text parent vs n m v s is stands =
    let at = before_in form.Reference (forms_of text) n in
    record {
      kind_is = s.kind_is;
      text_name = s.text_name;
      parent_name = s.parent_name;
      home = s.home;
      names = set s.names at m;
      words = s.words;
      refs = ap (λ (r : List reference.Reference). set r (2 + at) m) s.refs ∙ ap (λ (k : ℕ). set (s.text_name ∷ s.parent_name ∷ s.names) k m) (sym (two at));
      nums = s.nums;
      is_text = s.is_text;
      is_parent = s.is_parent;
      are = write-reference seen pair (forms_of text) s.names s.words vs n m v s.are is stands;
    }

put-word : (seen : Seen) (pair : Pairing) (it : Shown) (text : List ℕ) (parent : Option ℕ) (vs : List Value) (n : ℕ) (f : Form) (w : ℕ) (v : Value) → IsNumber f → IsScope seen pair it text parent vs
    → form_in (forms_of text) n ≡ Some f → IsWordOf w f v
    → IsScope seen pair (record it { nums = slice_set it.nums (1 + before_in f (forms_of text) n) w }) text parent (set vs n v)
put-word seen pair it text parent vs n f w v number s is word =
    let at = before_in f (forms_of text) n in
    record {
      kind_is = s.kind_is;
      text_name = s.text_name;
      parent_name = s.parent_name;
      home = s.home;
      names = s.names;
      words = slice_set s.words at w;
      refs = s.refs;
      nums = ap (λ (r : List ℕ). slice_set r (1 + at) w) s.nums ∙ set-behind (s.home ∷ []) s.words at w;
      is_text = s.is_text;
      is_parent = s.is_parent;
      are = write-word seen pair f (forms_of text) s.names s.words vs n w v number s.are is word;
    }

pub scope-written : (heap : Heap) (seen : Seen) (pair : Pairing) (it : Shown) (text : List ℕ) (parent : Option ℕ) (vs : List Value) (n : ℕ) (f : Form) (c : code.Value) (v : Value) → IsScope seen pair it text parent vs
    → form_in (forms_of text) n ≡ Some f → IsStored heap seen pair f c v
    → IsScope seen pair (shown_with heap it (index_behind f (before_in f (forms_of text) n)) c) text parent (set vs n v)
unfolding IsNumber
scope-written heap seen pair it text parent vs n form.Number (held.Num z) v s is st = put-word seen pair it text parent vs n form.Number (int_word z) v tt s is st
scope-written heap seen pair it text parent vs n form.Flag (held.Flag b) v s is st = put-word seen pair it text parent vs n form.Flag (flag_word b) v tt s is st
scope-written heap seen pair it text parent vs n form.Reference (held.Ref to) v s is st = put-name seen pair it text parent vs n (name_of heap (reference_to to)) v s is st
scope-written heap seen pair it text parent vs n form.Number (held.Flag b) v s is st = absurd st
scope-written heap seen pair it text parent vs n form.Number (held.Ref to) v s is st = absurd st
scope-written heap seen pair it text parent vs n form.Flag (held.Num z) v s is st = absurd st
scope-written heap seen pair it text parent vs n form.Flag (held.Ref to) v s is st = absurd st
scope-written heap seen pair it text parent vs n form.Reference (held.Num z) v s is st = absurd st
scope-written heap seen pair it text parent vs n form.Reference (held.Flag b) v s is st = absurd st

-- What the names of a new scope hold: nil, and words that are 0.
pub first-are : (seen : Seen) (pair : Pairing) (forms : List Form)
    → AreFor seen pair forms (replicate (rows_of forms).refs name.Nil) (replicate (rows_of forms).nums 0) (map first_value forms)
unfolding rows_of int_in flag_in
first-are seen pair [] = tt
first-are seen pair (form.Reference ∷ forms) =
    subst (λ (k : ℕ). AreFor seen pair (form.Reference ∷ forms) (replicate k name.Nil) (replicate (rows_of forms).nums 0) (map first_value (form.Reference ∷ forms)))
    (more (rows_of forms).refs) (refl, first-are seen pair forms)
first-are seen pair (form.Number ∷ forms) =
    subst (λ (k : ℕ). AreFor seen pair (form.Number ∷ forms) (replicate (rows_of forms).refs name.Nil) (replicate k 0) (map first_value (form.Number ∷ forms)))
    (more (rows_of forms).nums) (refl, first-are seen pair forms)
first-are seen pair (form.Flag ∷ forms) =
    subst (λ (k : ℕ). AreFor seen pair (form.Flag ∷ forms) (replicate (rows_of forms).refs name.Nil) (replicate k 0) (map first_value (form.Flag ∷ forms)))
    (more (rows_of forms).nums) (refl, first-are seen pair forms)
