-- Values in code that places of a form hold.
use Rattle.std.proofs.Common.{false, arith, inl, inr, ◌≡◌, ℕ, zero, suc, ◌-◌, ◌^◌, ℤ, pos, negsuc, List, [], ◌∷◌, length, replicate, refl, sym, ap, ◌∙◌, subst, Option, Some, None, true}
use Rattle.std.proofs.lemmas.Bool.{cases_lt, ltb-true, lt-ltb}
use Rattle.heap_meaning.specs.obj_layout.declared.reference.Reference as reference
use Rattle.heap_meaning.specs.swizzle.Heap as area
use Rattle.heap_meaning.specs.swizzle.Heap.{reference_to}
use Rattle.heap_meaning.specs.swizzle.Joint.{Shown, name_of}
use Rattle.heap_meaning.specs.swizzle.Touch.{Denotes}
use Rattle.heap_meaning.specs.text_forms.declared.forms.Form.{Form}
use Rattle.heap_meaning.specs.text_forms.declared.forms.Form.TheVariants as form
use Rattle.heap_meaning.specs.heap_places.Words.{int_in, int_word, flag_in, word_damage}
use Rattle.heap_meaning.specs.heap_places.Shapes.{word_in}
use Rattle.heap_meaning.specs.heap_places.Places.{Holds, IsNear, fit_damage}
use Rattle.heap_meaning.specs.heap_places.declared.value.Value as code
use Rattle.heap_meaning.specs.heap_places.declared.value.Value.TheVariants as held
use Rattle.heap_meaning.proofs.of_heap_places.WordLaws.{int-low, int-mid, int-high}
use Rattle.heap_meaning.specs.heap_ops.Vectors.{fitted}
use Rattle.heap_meaning.specs.ps_heap.Operators.{is_int}
use Rattle.heap_meaning.specs.ps_heap.Values.{Value, Num, Flag, Text, Nil, Pointer, Vector, Procedure, Nothing}
use Rattle.heap_meaning.specs.Standing.{StandsFor}
use Rattle.heap_meaning.specs.Paired.{paired}
use Rattle.heap_meaning.proofs.WriteLaws.{AreOf}
use Rattle.heap_meaning.proofs.GivenLaws.{IsStored}
use Rattle.heap_meaning.specs.ps_outside.Outside.{Outside}
use Rattle.heap_meaning.specs.obj_layout.Stored.{Space}
use Rattle.joint_ops.specs.World.{seen, IsForIn, IsOfForm}
use Rattle.joint_ops.specs.Operands.{AreForIn}

-- An int comes back from the word that it is stored as.
pub int-back : (z : ℤ) → is_int z ≡ true → int_in (int_word z) ≡ Some z
unfolding int_word
int-back (pos n) e = int-low n (ltb-true n (2 ^ 31) e)
int-back (negsuc n) e =
    let lt = ltb-true n (2 ^ 31) e in
    int-high (2 ^ 64 - 1 - n) (omega (arith, lt)) ∙ ap (λ (k : ℕ). Some (negsuc k)) (omega (arith, lt))

-- and what a word stands for is an int
pub int-read : (word : ℕ) (z : ℤ) → int_in word ≡ Some z → is_int z ≡ true
int-read word z e = elim (cases_lt word (2 ^ 31)) [
  | inl low ↦
      let same : pos word ≡ z = let both : Some (pos word) ≡ Some z = sym (int-low word low) ∙ e in cc in
      subst (λ (y : ℤ). is_int y ≡ true) same (lt-ltb word (2 ^ 31) low)
  | inr ge ↦ elim (cases_lt word (2 ^ 64 - 2 ^ 31)) [
    | inl mid ↦ let bad : None ≡ Some z = sym (int-mid word ge mid) ∙ e in absurd (cc)
    | inr high ↦
        let same : negsuc (2 ^ 64 - 1 - word) ≡ z = let both : Some (negsuc (2 ^ 64 - 1 - word)) ≡ Some z = sym (int-high word high) ∙ e in cc in
        subst (λ (y : ℤ). is_int y ≡ true) same (lt-ltb (2 ^ 64 - 1 - word) (2 ^ 31) (omega (arith, high)))
  ]
]

-- What a place holds is of its form.
pub holds-form : (here : area.Heap) (it : Shown) (f : Form) (index : ℕ) (c : code.Value) → Holds here it f index c → IsOfForm f c
holds-form here it form.Number index (held.Num z) h = int-read (word_in it index) z h
holds-form here it form.Flag index (held.Flag b) h = tt
holds-form here it form.Reference index (held.Ref to) h = tt
holds-form here it form.Number index (held.Flag b) h = absurd h
holds-form here it form.Number index (held.Ref to) h = absurd h
holds-form here it form.Flag index (held.Num z) h = absurd h
holds-form here it form.Flag index (held.Ref to) h = absurd h
holds-form here it form.Reference index (held.Num z) h = absurd h
holds-form here it form.Reference index (held.Flag b) h = absurd h

-- and its object lies in the area
pub holds-near : (here : area.Heap) (it : Shown) (f : Form) (index : ℕ) (c : code.Value) → Holds here it f index c → IsNear here c
holds-near here it f index (held.Num z) h = tt
holds-near here it f index (held.Flag b) h = tt
holds-near here it f index (held.Ref None) h = tt
holds-near here it form.Reference index (held.Ref (Some at)) h = h.0
holds-near here it form.Number index (held.Ref (Some at)) h = absurd h
holds-near here it form.Flag index (held.Ref (Some at)) h = absurd h

-- and may be stored there
pub form-fits : (f : Form) (c : code.Value) → IsOfForm f c → fit_damage f c ≡ None
unfolding fit_damage word_damage flag_in
form-fits form.Number (held.Num z) e = simp (int-back z e) refl
form-fits form.Flag (held.Flag true) e = refl
form-fits form.Flag (held.Flag false) e = refl
form-fits form.Reference (held.Ref to) e = refl
form-fits form.Number (held.Flag b) e = absurd e
form-fits form.Number (held.Ref to) e = absurd e
form-fits form.Flag (held.Num z) e = absurd e
form-fits form.Flag (held.Ref to) e = absurd e
form-fits form.Reference (held.Num z) e = absurd e
form-fits form.Reference (held.Flag b) e = absurd e

pub form-fitted : (f : Form) (c : code.Value) → IsOfForm f c → fitted f c ≡ Some c
unfolding fitted
form-fitted form.Number (held.Num z) e = refl
form-fitted form.Flag (held.Flag b) e = refl
form-fitted form.Reference (held.Ref to) e = refl
form-fitted form.Number (held.Flag b) e = absurd e
form-fitted form.Number (held.Ref to) e = absurd e
form-fitted form.Flag (held.Num z) e = absurd e
form-fitted form.Flag (held.Ref to) e = absurd e
form-fitted form.Reference (held.Num z) e = absurd e
form-fitted form.Reference (held.Flag b) e = absurd e

-- The name of what denotes a value.
pub denoted-name : (here : area.Heap) (to : Option ℕ) (n : reference.Reference) → Denotes here to n → name_of here (reference_to to) ≡ n
denoted-name here None n d = sym d
denoted-name here (Some at) n d = d.1

module _ (outside : Outside Space) where
  -- A value of the form that denotes one is stored as it.
  pub form-stored : (here : area.Heap) (names : List reference.Reference) (f : Form) (c : code.Value) (v : Value) → IsOfForm f c
      → IsForIn here outside names c v → IsStored here (seen here outside) (paired names) f c v
  unfolding flag_in
  form-stored here names form.Number (held.Num z) (Num w) e i = int-back z e ∙ ap Some i
  form-stored here names form.Flag (held.Flag true) (Flag w) e i = ap Some i
  form-stored here names form.Flag (held.Flag false) (Flag w) e i = ap Some i
  form-stored here names form.Reference (held.Ref to) v e i =
      subst (λ (n : reference.Reference). StandsFor (seen here outside) (paired names) n v) (sym (denoted-name here to i.name i.denotes)) i.stands
  form-stored here names form.Number (held.Flag b) v e i = absurd e
  form-stored here names form.Number (held.Ref to) v e i = absurd e
  form-stored here names form.Flag (held.Num z) v e i = absurd e
  form-stored here names form.Flag (held.Ref to) v e i = absurd e
  form-stored here names form.Reference (held.Num z) v e i = absurd e
  form-stored here names form.Reference (held.Flag b) v e i = absurd e
  form-stored here names form.Number (held.Num z) (Flag w) e i = absurd i
  form-stored here names form.Number (held.Num z) (Text w) e i = absurd i
  form-stored here names form.Number (held.Num z) Nil e i = absurd i
  form-stored here names form.Number (held.Num z) (Pointer w) e i = absurd i
  form-stored here names form.Number (held.Num z) (Vector w) e i = absurd i
  form-stored here names form.Number (held.Num z) (Procedure w s) e i = absurd i
  form-stored here names form.Number (held.Num z) Nothing e i = absurd i
  form-stored here names form.Flag (held.Flag b) (Num w) e i = absurd i
  form-stored here names form.Flag (held.Flag b) (Text w) e i = absurd i
  form-stored here names form.Flag (held.Flag b) Nil e i = absurd i
  form-stored here names form.Flag (held.Flag b) (Pointer w) e i = absurd i
  form-stored here names form.Flag (held.Flag b) (Vector w) e i = absurd i
  form-stored here names form.Flag (held.Flag b) (Procedure w s) e i = absurd i
  form-stored here names form.Flag (held.Flag b) Nothing e i = absurd i

  -- Values of their forms that denote others are laid as them.

  one-more : (here : area.Heap) (names : List reference.Reference) (fs : List Form) (cs : List code.Value) (vs : List Value) (f : Form)
      (c : code.Value) (v : Value) → AreOf here (seen here outside) (paired names) fs cs vs → IsOfForm f c → IsForIn here outside names c v
      → AreOf here (seen here outside) (paired names) (f ∷ fs) (c ∷ cs) (v ∷ vs)
  one-more here names fs cs vs form.Number (held.Num z) (Num w) rest e i = (i, int-back z e, rest)
  one-more here names fs cs vs form.Flag (held.Flag b) (Flag w) rest e i = (i, rest)
  one-more here names fs cs vs form.Reference (held.Ref to) v rest e i = (form-stored here names form.Reference (held.Ref to) v e i, rest)
  one-more here names fs cs vs form.Number (held.Flag b) v rest e i = absurd e
  one-more here names fs cs vs form.Number (held.Ref to) v rest e i = absurd e
  one-more here names fs cs vs form.Flag (held.Num z) v rest e i = absurd e
  one-more here names fs cs vs form.Flag (held.Ref to) v rest e i = absurd e
  one-more here names fs cs vs form.Reference (held.Num z) v rest e i = absurd e
  one-more here names fs cs vs form.Reference (held.Flag b) v rest e i = absurd e
  one-more here names fs cs vs form.Number (held.Num z) (Flag w) rest e i = absurd i
  one-more here names fs cs vs form.Number (held.Num z) (Text w) rest e i = absurd i
  one-more here names fs cs vs form.Number (held.Num z) Nil rest e i = absurd i
  one-more here names fs cs vs form.Number (held.Num z) (Pointer w) rest e i = absurd i
  one-more here names fs cs vs form.Number (held.Num z) (Vector w) rest e i = absurd i
  one-more here names fs cs vs form.Number (held.Num z) (Procedure w s) rest e i = absurd i
  one-more here names fs cs vs form.Number (held.Num z) Nothing rest e i = absurd i
  one-more here names fs cs vs form.Flag (held.Flag b) (Num w) rest e i = absurd i
  one-more here names fs cs vs form.Flag (held.Flag b) (Text w) rest e i = absurd i
  one-more here names fs cs vs form.Flag (held.Flag b) Nil rest e i = absurd i
  one-more here names fs cs vs form.Flag (held.Flag b) (Pointer w) rest e i = absurd i
  one-more here names fs cs vs form.Flag (held.Flag b) (Vector w) rest e i = absurd i
  one-more here names fs cs vs form.Flag (held.Flag b) (Procedure w s) rest e i = absurd i
  one-more here names fs cs vs form.Flag (held.Flag b) Nothing rest e i = absurd i

  pub are-of : (here : area.Heap) (names : List reference.Reference) (fs : List Form) (cs : List code.Value) (vs : List Value)
      → AreForIn here outside names fs cs vs → AreOf here (seen here outside) (paired names) fs cs vs
  are-of here names [] [] [] a = tt
  are-of here names [] [] (v ∷ vs) a = absurd a
  are-of here names [] (c ∷ cs) vs a = absurd a
  are-of here names (f ∷ fs) [] vs a = absurd a
  are-of here names (f ∷ fs) (c ∷ cs) [] a = absurd a
  are-of here names (f ∷ fs) (c ∷ cs) (v ∷ vs) a = one-more here names fs cs vs f c v (are-of here names fs cs vs (a.2)) (a.0) (a.1)

  -- they are as many
  pub are-long : (here : area.Heap) (names : List reference.Reference) (fs : List Form) (cs : List code.Value) (vs : List Value)
      → AreForIn here outside names fs cs vs → length cs ≡ length vs
  are-long here names [] [] [] a = refl
  are-long here names [] [] (v ∷ vs) a = absurd a
  are-long here names [] (c ∷ cs) vs a = absurd a
  are-long here names (f ∷ fs) [] vs a = absurd a
  are-long here names (f ∷ fs) (c ∷ cs) [] a = absurd a
  are-long here names (f ∷ fs) (c ∷ cs) (v ∷ vs) a = ap suc (are-long here names fs cs vs (a.2))

  -- one value, so many times
  pub are-repeated : (here : area.Heap) (names : List reference.Reference) (f : Form) (c : code.Value) (v : Value) (n : ℕ) → IsOfForm f c
      → IsForIn here outside names c v → AreForIn here outside names (replicate n f) (replicate n c) (replicate n v)
  are-repeated here names f c v zero e i = tt
  are-repeated here names f c v (suc n) e i = (e, i, are-repeated here names f c v n e i)
