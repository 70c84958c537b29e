-- A vector that stands for one of the meaning: its bounds and elements, what is written to it, and that it isn't damaged.
use Rattle.std.proofs.Common.{arith, ◌≡◌, ℕ, suc, ◌+◌, ◌<◌, ◌^◌, ℤ, pos, negsuc, List, [], ◌∷◌, length, get_or, set, slice_set, replicate, refl, sym, ap, ◌∙◌, subst, Option, Some, None, unwrap_or, Bool, true, false, nat_lt, if◌then◌else◌}
use Rattle.std.specs.Prelude.{◌-ℤ◌}
use Rattle.std.proofs.lemmas.Bool.{eq-eqb, ltb-true}
use Rattle.std.proofs.lemmas.List.{length-set}
use Rattle.proc_values.specs.obj_layout.Stored.{damage}
use Rattle.proc_values.specs.obj_layout.declared.kind.Kind.TheVariants as kind
use Rattle.proc_values.specs.swizzle.Heap.{Heap, reference_to}
use Rattle.proc_values.specs.swizzle.Joint.{Shown, name_of}
use Rattle.proc_values.specs.text_forms.declared.forms.Form.{Form}
use Rattle.proc_values.specs.text_forms.declared.forms.Form.TheVariants as form
use Rattle.proc_values.specs.text_forms.Forms.{element_of, form_in, before_in, rows_of, is_number_form}
use Rattle.heap_ops.specs.heap_places.Shapes.{word_in}
use Rattle.heap_ops.specs.heap_places.Words.{int_in, int_word, flag_word}
use Rattle.heap_ops.specs.heap_places.Places as places
use Rattle.heap_ops.specs.heap_places.declared.value.Value as code
use Rattle.heap_ops.specs.heap_places.declared.value.Value.TheVariants as held
use Rattle.heap_ops.specs.Vectors.{count_of, low_of, index_of, vector_damage, subscript, of_bounds}
use Rattle.proc_values.specs.ps_heap.Values.{Value, Nothing}
use Rattle.proc_values.specs.ps_heap.Objects.{is_vector, place_of, place_from}
use Rattle.heap_meaning.specs.Standing.{Seen, Pairing, IsWordOf, IsAs, IsVector}
use Rattle.heap_meaning.specs.Denoting.{IsFor}
use Rattle.heap_meaning.proofs.StandingLaws.{IsNumber}
use Rattle.heap_meaning.proofs.PlaceLaws.{are-refs, are-words, as-read}
use Rattle.heap_meaning.proofs.WriteLaws.{as-written_name, as-written_word, element-form, element-before, rows-refs, rows-words}
use Rattle.heap_meaning.proofs.GivenLaws.{shown_with, IsStored}

-- its lower bound
bound-is : (seen : Seen) (pair : Pairing) (it : Shown) (ty : List ℕ) (low : ℤ) (vs : List Value) → (v : IsVector seen pair it ty low vs) → int_in (word_in it 1) ≡ Some low
bound-is seen pair it ty low vs v = ap (λ (l : List ℕ). int_in (get_or l 1 0)) v.rows.nums ∙ v.bound_is

pub low-is : (seen : Seen) (pair : Pairing) (it : Shown) (ty : List ℕ) (low : ℤ) (vs : List Value) → IsVector seen pair it ty low vs → low_of it ≡ low
unfolding low_of
low-is seen pair it ty low vs v = ap (λ (o : Option ℤ). unwrap_or o (pos 0)) (bound-is seen pair it ty low vs v)

-- how long its rows are
pub record Long (it : Shown) (f : Form) (n : ℕ) : Type 0 where
  pub count : count_of it f ≡ n
  pub rest : (if is_number_form f then length it.refs else length it.nums) ≡ (if is_number_form f then 1 else 2)

pub is-long : (seen : Seen) (pair : Pairing) (it : Shown) (ty : List ℕ) (low : ℤ) (vs : List Value) → IsVector seen pair it ty low vs → Long it (element_of ty) (length vs)
unfolding count_of IsNumber
is-long seen pair it ty low vs v = of (element_of ty) refl
  where
    a : IsAs seen pair it kind.Vector ty (λ home. home ∷ v.bound ∷ []) (replicate (length vs) (element_of ty)) vs
    a = v.rows

    refs : length it.refs ≡ suc (rows_of (replicate (length vs) (element_of ty))).refs
    refs = ap length a.refs ∙ ap suc (are-refs seen pair (replicate (length vs) (element_of ty)) a.names a.words vs a.are)

    nums : length it.nums ≡ suc (suc (rows_of (replicate (length vs) (element_of ty))).nums)
    nums = ap length a.nums ∙ ap (λ (n : ℕ). suc (suc n)) (are-words seen pair (replicate (length vs) (element_of ty)) a.names a.words vs a.are)

    word : (f : Form) → element_of ty ≡ f → IsNumber f → (length it.refs ≡ 1) × (length it.nums ≡ 2 + length vs)
    word f same number =
        let rows = rows-words f (length vs) number in
        let r = ap (λ (g : Form). (rows_of (replicate (length vs) g)).refs) same in
        let n = ap (λ (g : Form). (rows_of (replicate (length vs) g)).nums) same in
        (omega (arith, refs, r, rows.0), omega (arith, nums, n, rows.1))

    of : (f : Form) → element_of ty ≡ f → Long it (element_of ty) (length vs)
    of form.Number same = let w = word form.Number same tt in subst (λ (g : Form). Long it g (length vs)) (sym same) (record { count = omega (arith, w.1); rest = w.0 })
    of form.Flag same = let w = word form.Flag same tt in subst (λ (g : Form). Long it g (length vs)) (sym same) (record { count = omega (arith, w.1); rest = w.0 })
    of form.Reference same =
        let rows = rows-refs (length vs) in
        let r = ap (λ (g : Form). (rows_of (replicate (length vs) g)).refs) same in
        let n = ap (λ (g : Form). (rows_of (replicate (length vs) g)).nums) same in
        subst (λ (g : Form). Long it g (length vs)) (sym same) (record { count = omega (arith, refs, r, rows.0); rest = omega (arith, nums, n, rows.1) })

-- A vector that stands for one isn't damaged.
pub vector-shape : (seen : Seen) (pair : Pairing) (it : Shown) (ty : List ℕ) (low : ℤ) (vs : List Value) → IsVector seen pair it ty low vs → vector_damage it (element_of ty) ≡ None
unfolding vector_damage
vector-shape seen pair it ty low vs v =
    let long = is-long seen pair it ty low vs v in
    let rest = if is_number_form (element_of ty) then length it.refs else length it.nums in
    let wanted = if is_number_form (element_of ty) then 1 else 2 in
    ap (λ (b : Bool). if b then of_bounds (int_in (word_in it 1)) (word_in it 1) (count_of it (element_of ty)) else damage rest wanted) (eq-eqb rest wanted long.rest)
    ∙ ap (λ (o : Option ℤ). of_bounds o (word_in it 1) (count_of it (element_of ty))) (bound-is seen pair it ty low vs v)
    ∙ ap (λ (n : ℕ). of_bounds (Some low) (word_in it 1) n) long.count
    ∙ ap (λ (b : Bool). if b then None else damage (length vs) (2 ^ 20)) v.fits

-- the place of a subscript is the one of the meaning
pub subscript-is : (seen : Seen) (pair : Pairing) (it : Shown) (ty : List ℕ) (low : ℤ) (vs : List Value) (z : ℤ) → IsVector seen pair it ty low vs → subscript it ty z ≡ place_of low (length vs) z
subscript-is seen pair it ty low vs z v =
    ap (λ (l : ℤ). place_of l (count_of it (element_of ty)) z) (low-is seen pair it ty low vs v)
    ∙ ap (λ (n : ℕ). place_of low n z) (is-long seen pair it ty low vs v).count

-- a subscript's place lies below the number of elements
pub below-count : (low z : ℤ) (count n : ℕ) → place_of low count z ≡ Some n → n < count
below-count low z count n is = of (z -ℤ low) is
  where
    of : (d : ℤ) → place_from d count ≡ Some n → n < count
    of (pos k) e = tested (nat_lt k count) refl e
      where
        tested : (b : Bool) → nat_lt k count ≡ b → (if b then Some k else None) ≡ Some n → n < count
        tested true lt h = let same : k ≡ n = cc in omega (arith, ltb-true k count lt, same)
        tested false lt h = absurd (cc)
    of (negsuc k) e = absurd (cc)

index-is : (f : Form) (n k : ℕ) → k ≡ n → index_of f n ≡ (if is_number_form f then 2 + k else 1 + k)
index-is form.Number n k e = omega (arith, e)
index-is form.Flag n k e = omega (arith, e)
index-is form.Reference n k e = omega (arith, e)

-- The value of an element.
pub element-read : (heap : Heap) (seen : Seen) (pair : Pairing) (it : Shown) (ty : List ℕ) (low : ℤ) (vs : List Value) (n : ℕ) (c : code.Value) → IsVector seen pair it ty low vs → n < length vs
    → places.Holds heap it (element_of ty) (index_of (element_of ty) n) c → IsFor heap seen pair c (get_or vs n Nothing)
element-read heap seen pair it ty low vs n c v lt h =
    let f = element_of ty in
    as-read heap seen pair it kind.Vector ty (λ home. home ∷ v.bound ∷ []) (replicate (length vs) f) vs n 2 f c v.rows refl (element-form f (length vs) n lt)
    (subst (λ (k : ℕ). places.Holds heap it f k c) (index-is f n (before_in f (replicate (length vs) f) n) (element-before f (length vs) n lt)) h)

-- An element was written.
pub element-written : (heap : Heap) (seen : Seen) (pair : Pairing) (it : Shown) (ty : List ℕ) (low : ℤ) (vs : List Value) (n : ℕ) (c : code.Value) (w : Value) → IsVector seen pair it ty low vs → n < length vs
    → IsStored heap seen pair (element_of ty) c w → IsVector seen pair (shown_with heap it (index_of (element_of ty) n) c) ty low (set vs n w)
unfolding IsNumber
element-written heap seen pair it ty low vs n c w v lt stored = record {
  bound = v.bound;
  bound_is = v.bound_is;
  fits = ap (is_vector low) (length-set vs n w) ∙ v.fits;
  rows = subst (λ (k : ℕ). IsAs seen pair (shown_with heap it (index_of f n) c) kind.Vector ty first (replicate k f) (set vs n w)) (sym (length-set vs n w)) (of f c refl stored);
}
  where
    f : Form
    f = element_of ty

    first : ℕ → List ℕ
    first home = home ∷ v.bound ∷ []

    forms : List Form
    forms = replicate (length vs) f

    word : (g : Form) (x : ℕ) → f ≡ g → IsNumber g → IsWordOf x g w → IsAs seen pair (record it { nums = slice_set it.nums (2 + n) x }) kind.Vector ty first forms (set vs n w)
    word g x same number is =
        let at : form_in forms n ≡ Some g = element-form f (length vs) n lt ∙ ap Some same in
        let place : before_in g forms n ≡ n = ap (λ (h : Form). before_in h forms n) (sym same) ∙ element-before f (length vs) n lt in
        subst (λ (k : ℕ). IsAs seen pair (record it { nums = slice_set it.nums (2 + k) x }) kind.Vector ty first forms (set vs n w)) place
        (as-written_word seen pair it kind.Vector ty first forms vs n 2 g x w v.rows refl number at is)

    of : (g : Form) (c : code.Value) → f ≡ g → IsStored heap seen pair g c w → IsAs seen pair (shown_with heap it (index_of g n) c) kind.Vector ty first forms (set vs n w)
    of form.Number (held.Num z) same st = word form.Number (int_word z) same tt st
    of form.Flag (held.Flag b) same st = word form.Flag (flag_word b) same tt st
    of form.Reference (held.Ref to) same st =
        let at : form_in forms n ≡ Some form.Reference = element-form f (length vs) n lt ∙ ap Some same in
        let place : before_in form.Reference forms n ≡ n = ap (λ (h : Form). before_in h forms n) (sym same) ∙ element-before f (length vs) n lt in
        subst (λ (k : ℕ). IsAs seen pair (record it { refs = set it.refs (1 + k) (name_of heap (reference_to to)) }) kind.Vector ty first forms (set vs n w)) place
        (as-written_name seen pair it kind.Vector ty first forms vs n (name_of heap (reference_to to)) w v.rows at st)
    of form.Number (held.Flag b) same st = absurd st
    of form.Number (held.Ref to) same st = absurd st
    of form.Flag (held.Num z) same st = absurd st
    of form.Flag (held.Ref to) same st = absurd st
    of form.Reference (held.Num z) same st = absurd st
    of form.Reference (held.Flag b) same st = absurd st
