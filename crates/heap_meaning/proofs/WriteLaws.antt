-- Writing a place of an object that stands for another, and making one.
use Rattle.std.proofs.Common.{arith, ◌≡◌, ℕ, zero, suc, ◌+◌, ◌<◌, ℤ, List, [], ◌∷◌, ◌++◌, length, map, set, slice_set, replicate, refl, sym, ap, ◌∙◌, Option, Some, Bool, true, false}
use Rattle.proc_values.specs.obj_layout.declared.kind.Kind.{Kind}
use Rattle.proc_values.specs.obj_layout.declared.reference.Reference as reference
use Rattle.proc_values.specs.obj_layout.declared.reference.Reference.TheVariants as name
use Rattle.proc_values.specs.swizzle.Heap.{Heap, reference_to}
use Rattle.proc_values.specs.swizzle.Joint.{Shown, shown, name_of}
use Rattle.proc_values.specs.text_forms.declared.forms.Form.{Form}
use Rattle.proc_values.specs.text_forms.declared.forms.Form.TheVariants as form
use Rattle.proc_values.specs.text_forms.Forms.{form_in, before_in, rows_of}
use Rattle.heap_ops.specs.heap_places.Shapes.{IsText}
use Rattle.heap_ops.specs.heap_places.Words.{int_in, flag_in, int_word, flag_word}
use Rattle.heap_ops.specs.heap_places.Filling.{refs_of, words_of, first_words, filled}
use Rattle.heap_ops.specs.heap_places.declared.value.Value as code
use Rattle.heap_ops.specs.heap_places.declared.value.Value.TheVariants as held
use Rattle.proc_values.specs.ps_heap.Values.{Value, Num, Flag, Text, Nil, Pointer, Vector, Procedure, Nothing}
use Rattle.heap_meaning.specs.Standing.{Seen, Pairing, StandsFor, IsWordOf, AreFor, IsAs}
use Rattle.heap_meaning.proofs.StandingLaws.{IsNumber, write-reference, write-word}

step : (n : ℕ) → suc n ≡ 1 + n
step n = omega arith

-- A reference was written.
pub as-written_name : (seen : Seen) (pair : Pairing) (it : Shown) (of : Kind) (text : List ℕ) (first : ℕ → List ℕ) (forms : List Form) (vs : List Value) (n : ℕ) (m : reference.Reference) (v : Value)
    → IsAs seen pair it of text first forms vs → form_in forms n ≡ Some form.Reference → StandsFor seen pair m v
    → IsAs seen pair (record it { refs = set it.refs (1 + before_in form.Reference forms n) m }) of text first forms (set vs n v)
as-written_name seen pair it of text first forms vs n m v a is s = record {
  kind_is = a.kind_is;
  text_name = a.text_name;
  home = a.home;
  names = set a.names (before_in form.Reference forms n) m;
  words = a.words;
  refs = ap (λ (r : List reference.Reference). set r (1 + before_in form.Reference forms n) m) a.refs ∙ ap (λ (k : ℕ). set (a.text_name ∷ a.names) k m) (sym (step (before_in form.Reference forms n)));
  nums = a.nums;
  is_text = a.is_text;
  are = write-reference seen pair forms a.names a.words vs n m v a.are is s;
}

-- words after the first ones
pub set-behind : (front words : List ℕ) (k w : ℕ) → slice_set (front ++ words) (length front + k) w ≡ front ++ slice_set words k w
set-behind [] words k w = let e : 0 + k ≡ k = omega arith in ap (λ (i : ℕ). slice_set words i w) e
set-behind (x ∷ xs) words k w =
    let e : length (x ∷ xs) + k ≡ suc (length xs + k) = omega arith in
    ap (λ (i : ℕ). slice_set ((x ∷ xs) ++ words) i w) e ∙ ap (λ (l : List ℕ). x ∷ l) (set-behind xs words k w)

-- A word was written.
pub as-written_word : (seen : Seen) (pair : Pairing) (it : Shown) (of : Kind) (text : List ℕ) (first : ℕ → List ℕ) (forms : List Form) (vs : List Value) (n before : ℕ) (f : Form) (w : ℕ) (v : Value)
    → (a : IsAs seen pair it of text first forms vs) → length (first a.home) ≡ before → IsNumber f → form_in forms n ≡ Some f → IsWordOf w f v
    → IsAs seen pair (record it { nums = slice_set it.nums (before + before_in f forms n) w }) of text first forms (set vs n v)
as-written_word seen pair it of text first forms vs n before f w v a long number is s = record {
  kind_is = a.kind_is;
  text_name = a.text_name;
  home = a.home;
  names = a.names;
  words = slice_set a.words (before_in f forms n) w;
  refs = a.refs;
  nums = ap (λ (r : List ℕ). slice_set r (before + before_in f forms n) w) a.nums
      ∙ ap (λ (b : ℕ). slice_set (first a.home ++ a.words) (b + before_in f forms n) w) (sym long)
      ∙ set-behind (first a.home) a.words (before_in f forms n) w;
  is_text = a.is_text;
  are = write-word seen pair f forms a.names a.words vs n w v number a.are is s;
}

-- The places of a vector's elements.
pub element-form : (f : Form) (c n : ℕ) → n < c → form_in (replicate c f) n ≡ Some f
unfolding form_in
element-form f zero n lt = absurd (omega arith)
element-form f (suc c) zero lt = refl
element-form f (suc c) (suc n) lt = element-form f c n (omega arith)

pub element-before : (f : Form) (c n : ℕ) → n < c → before_in f (replicate c f) n ≡ n
unfolding before_in
element-before f zero n lt = absurd (omega arith)
element-before f (suc c) zero lt = refl
element-before form.Number (suc c) (suc n) lt = omega (arith, element-before form.Number c n (omega arith))
element-before form.Flag (suc c) (suc n) lt = omega (arith, element-before form.Flag c n (omega arith))
element-before form.Reference (suc c) (suc n) lt = omega (arith, element-before form.Reference c n (omega arith))

pub rows-refs : (c : ℕ) → ((rows_of (replicate c form.Reference)).refs ≡ c) × ((rows_of (replicate c form.Reference)).nums ≡ 0)
unfolding rows_of
rows-refs zero = (refl, refl)
rows-refs (suc c) = (omega (arith, (rows-refs c).0), (rows-refs c).1)

pub rows-words : (f : Form) (c : ℕ) → IsNumber f → ((rows_of (replicate c f)).refs ≡ 0) × ((rows_of (replicate c f)).nums ≡ c)
unfolding rows_of IsNumber
rows-words form.Reference c number = absurd number
rows-words form.Number zero number = (refl, refl)
rows-words form.Number (suc c) number = ((rows-words form.Number c number).0, omega (arith, (rows-words form.Number c number).1))
rows-words form.Flag zero number = (refl, refl)
rows-words form.Flag (suc c) number = ((rows-words form.Flag c number).0, omega (arith, (rows-words form.Flag c number).1))

-- Making: values in code that denote values of the meaning, laid in their rows.

-- the values are of the forms, and denote those of the meaning
abbrev pub AreOf : Heap → Seen → Pairing → List Form → List code.Value → List Value → Type 0
AreOf heap seen pair (form.Number ∷ forms) (held.Num z ∷ cs) (Num w ∷ vs) = (z ≡ w) × (int_in (int_word z) ≡ Some z) × AreOf heap seen pair forms cs vs
AreOf heap seen pair (form.Flag ∷ forms) (held.Flag b ∷ cs) (Flag c ∷ vs) = (b ≡ c) × AreOf heap seen pair forms cs vs
AreOf heap seen pair (form.Reference ∷ forms) (held.Ref to ∷ cs) (v ∷ vs) = StandsFor seen pair (name_of heap (reference_to to)) v × AreOf heap seen pair forms cs vs
AreOf heap seen pair [] [] [] = Unit {0}
AreOf heap seen pair _ _ _ = ⊥

flag-stored : (b : Bool) → flag_in (flag_word b) ≡ Some b
unfolding flag_in
flag-stored true = refl
flag-stored false = refl

pub are-laid : (heap : Heap) (seen : Seen) (pair : Pairing) (forms : List Form) (cs : List code.Value) (vs : List Value) → AreOf heap seen pair forms cs vs
    → AreFor seen pair forms (map (name_of heap) (refs_of cs)) (words_of cs) vs
unfolding refs_of words_of
are-laid heap seen pair (form.Number ∷ forms) (held.Num z ∷ cs) (Num w ∷ vs) a = (a.1 ∙ ap Some a.0, are-laid heap seen pair forms cs vs a.2)
are-laid heap seen pair (form.Flag ∷ forms) (held.Flag b ∷ cs) (Flag c ∷ vs) a = (flag-stored b ∙ ap Some a.0, are-laid heap seen pair forms cs vs a.1)
are-laid heap seen pair (form.Reference ∷ forms) (held.Ref to ∷ cs) (v ∷ vs) a = (a.0, are-laid heap seen pair forms cs vs a.1)
are-laid heap seen pair [] [] [] a = tt
are-laid heap seen pair [] [] (v ∷ vs) a = absurd a
are-laid heap seen pair [] (c ∷ cs) vs a = absurd a
are-laid heap seen pair (form.Number ∷ forms) [] vs a = absurd a
are-laid heap seen pair (form.Number ∷ forms) (held.Flag z ∷ cs) vs a = absurd a
are-laid heap seen pair (form.Number ∷ forms) (held.Ref z ∷ cs) vs a = absurd a
are-laid heap seen pair (form.Number ∷ forms) (held.Num z ∷ cs) [] a = absurd a
are-laid heap seen pair (form.Number ∷ forms) (held.Num z ∷ cs) (Flag w ∷ vs) a = absurd a
are-laid heap seen pair (form.Number ∷ forms) (held.Num z ∷ cs) (Text w ∷ vs) a = absurd a
are-laid heap seen pair (form.Number ∷ forms) (held.Num z ∷ cs) (Nil ∷ vs) a = absurd a
are-laid heap seen pair (form.Number ∷ forms) (held.Num z ∷ cs) (Pointer w ∷ vs) a = absurd a
are-laid heap seen pair (form.Number ∷ forms) (held.Num z ∷ cs) (Vector w ∷ vs) a = absurd a
are-laid heap seen pair (form.Number ∷ forms) (held.Num z ∷ cs) (Procedure b s ∷ vs) a = absurd a
are-laid heap seen pair (form.Number ∷ forms) (held.Num z ∷ cs) (Nothing ∷ vs) a = absurd a
are-laid heap seen pair (form.Flag ∷ forms) [] vs a = absurd a
are-laid heap seen pair (form.Flag ∷ forms) (held.Num z ∷ cs) vs a = absurd a
are-laid heap seen pair (form.Flag ∷ forms) (held.Ref z ∷ cs) vs a = absurd a
are-laid heap seen pair (form.Flag ∷ forms) (held.Flag z ∷ cs) [] a = absurd a
are-laid heap seen pair (form.Flag ∷ forms) (held.Flag z ∷ cs) (Num w ∷ vs) a = absurd a
are-laid heap seen pair (form.Flag ∷ forms) (held.Flag z ∷ cs) (Text w ∷ vs) a = absurd a
are-laid heap seen pair (form.Flag ∷ forms) (held.Flag z ∷ cs) (Nil ∷ vs) a = absurd a
are-laid heap seen pair (form.Flag ∷ forms) (held.Flag z ∷ cs) (Pointer w ∷ vs) a = absurd a
are-laid heap seen pair (form.Flag ∷ forms) (held.Flag z ∷ cs) (Vector w ∷ vs) a = absurd a
are-laid heap seen pair (form.Flag ∷ forms) (held.Flag z ∷ cs) (Procedure b s ∷ vs) a = absurd a
are-laid heap seen pair (form.Flag ∷ forms) (held.Flag z ∷ cs) (Nothing ∷ vs) a = absurd a
are-laid heap seen pair (form.Reference ∷ forms) [] vs a = absurd a
are-laid heap seen pair (form.Reference ∷ forms) (held.Num z ∷ cs) vs a = absurd a
are-laid heap seen pair (form.Reference ∷ forms) (held.Flag z ∷ cs) vs a = absurd a
are-laid heap seen pair (form.Reference ∷ forms) (held.Ref z ∷ cs) [] a = absurd a

-- what is seen of a new object that was filled with them
pub as-made : (heap : Heap) (seen : Seen) (pair : Pairing) (of : Kind) (at : ℕ) (text : List ℕ) (low : Option ℤ) (first : ℕ → List ℕ) (forms : List Form) (cs : List code.Value) (vs : List Value)
    → IsText seen (name_of heap (name.Local at)) text → first 0 ≡ first_words low → AreOf heap seen pair forms cs vs
    → IsAs seen pair (shown (name_of heap) (filled of at low cs)) of text first forms vs
unfolding filled
as-made heap seen pair of at text low first forms cs vs is same a = record {
  kind_is = refl;
  text_name = name_of heap (name.Local at);
  home = 0;
  names = map (name_of heap) (refs_of cs);
  words = words_of cs;
  refs = refl;
  nums = ap (λ (l : List ℕ). l ++ words_of cs) (sym same);
  is_text = is;
  are = are-laid heap seen pair forms cs vs a;
}
