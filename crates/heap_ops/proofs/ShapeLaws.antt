-- The shape of a vector, and what is wrong with one.
use Rattle.std.proofs.Common.{arith, inl, inr, ◌≡◌, ℕ, ◌<◌, ◌^◌, ◌-◌, ℤ, pos, length, refl, sym, ap, ◌∙◌, subst, Option, Some, None, unwrap_or, Bool, true, false, nat_eq, w32, to_z, of_z, if◌then◌else◌}
use Rattle.std.specs.Prelude.{negsuc}
use Rattle.std.proofs.lemmas.Bool.{cases_lt, eq-eqb}
use Rattle.std.proofs.lemmas.Int.{to_z-of_z}
use mir.Val.{SFits}
use Rattle.heap_places.specs.ps_heap.Objects.{is_vector}
use Rattle.heap_places.specs.obj_layout.Stored.{damage}
use Rattle.heap_places.specs.swizzle.Joint.{Shown}
use Rattle.heap_places.specs.text_forms.declared.forms.Form.{Form}
use Rattle.heap_places.specs.text_forms.Forms.{is_number_form}
use Rattle.heap_places.specs.Shapes.{word_in}
use Rattle.heap_places.specs.Words.{int_in}
use Rattle.heap_places.proofs.WordLaws.{int-low, int-mid, int-high}
use Rattle.heap_ops.specs.Vectors.{count_of, low_of, of_bounds, vector_damage, IsShaped}

-- An int that a word stands for has 32 bits.
pub int-fits : (word : ℕ) (z : ℤ) → word < 2 ^ 64 → int_in word ≡ Some z → SFits w32 z
int-fits word z lt is = elim (cases_lt word (2 ^ 31)) [
  | inl low ↦ subst (SFits w32) (same_of word (pos word) z (int-low word low) is) (record { sfits = low })
  | inr ge ↦ elim (cases_lt word (2 ^ 64 - 2 ^ 31)) [
    | inl mid ↦ absurd (none_of word z (int-mid word ge mid) is)
    | inr high ↦ subst (SFits w32) (same_of word (negsuc (2 ^ 64 - 1 - word)) z (int-high word high) is) (record { sfits = omega (arith, high, lt) })
  ]
]
  where
    same_of : (word : ℕ) (y z : ℤ) → int_in word ≡ Some y → int_in word ≡ Some z → y ≡ z
    same_of word y z a b = let e : Some y ≡ Some z = sym a ∙ b in cc

    none_of : (word : ℕ) (z : ℤ) → int_in word ≡ None → int_in word ≡ Some z → ⊥
    none_of word z a b = let e : None ≡ Some z = sym a ∙ b in cc

pub the-int : (word : ℕ) (z : ℤ) → word < 2 ^ 64 → int_in word ≡ Some z → to_z w32 (of_z w32 z) ≡ z
the-int word z lt is = to_z-of_z w32 z (int-fits word z lt is)

abbrev rest : Shown → Form → ℕ
rest it f = if is_number_form f then length it.refs else length it.nums

abbrev wanted : Form → ℕ
wanted f = if is_number_form f then 1 else 2

-- What is wrong with a vector.
pub wrong-rest : (it : Shown) (f : Form) → (nat_eq (rest it f) (wanted f) ≡ false) → vector_damage it f ≡ damage (rest it f) (wanted f)
unfolding vector_damage
wrong-rest it f ne = ap (λ (b : Bool). if b then of_bounds (int_in (word_in it 1)) (word_in it 1) (count_of it f) else damage (rest it f) (wanted f)) ne

pub right-rest : (it : Shown) (f : Form) → rest it f ≡ wanted f → vector_damage it f ≡ of_bounds (int_in (word_in it 1)) (word_in it 1) (count_of it f)
unfolding vector_damage
right-rest it f e = ap (λ (b : Bool). if b then of_bounds (int_in (word_in it 1)) (word_in it 1) (count_of it f) else damage (rest it f) (wanted f)) (eq-eqb (rest it f) (wanted f) e)

pub wrong-word : (it : Shown) (f : Form) → rest it f ≡ wanted f → int_in (word_in it 1) ≡ None → vector_damage it f ≡ damage (word_in it 1) (2 ^ 31)
wrong-word it f e none = right-rest it f e ∙ ap (λ (o : Option ℤ). of_bounds o (word_in it 1) (count_of it f)) none

pub wrong-bounds : (it : Shown) (f : Form) (low : ℤ) → rest it f ≡ wanted f → int_in (word_in it 1) ≡ Some low → is_vector low (count_of it f) ≡ false → vector_damage it f ≡ damage (count_of it f) (2 ^ 20)
wrong-bounds it f low e some no_vector =
    right-rest it f e ∙ ap (λ (o : Option ℤ). of_bounds o (word_in it 1) (count_of it f)) some
    ∙ ap (λ (b : Bool). if b then None else damage (count_of it f) (2 ^ 20)) no_vector

pub right-bounds : (it : Shown) (f : Form) (low : ℤ) → rest it f ≡ wanted f → int_in (word_in it 1) ≡ Some low → is_vector low (count_of it f) ≡ true → vector_damage it f ≡ None
right-bounds it f low e some a_vector =
    right-rest it f e ∙ ap (λ (o : Option ℤ). of_bounds o (word_in it 1) (count_of it f)) some
    ∙ ap (λ (b : Bool). if b then None else damage (count_of it f) (2 ^ 20)) a_vector

pub shaped : (it : Shown) (f : Form) (low : ℤ) (count : ℕ) → rest it f ≡ wanted f → int_in (word_in it 1) ≡ Some low → count ≡ count_of it f → is_vector low count ≡ true → IsShaped it (record { form = f; low = low; count = count })
unfolding low_of
shaped it f low count e some is a_vector = record {
  sound = right-bounds it f low e some (ap (is_vector low) (sym is) ∙ a_vector);
  low_is = sym (ap (λ (o : Option ℤ). unwrap_or o (pos 0)) some);
  count_is = is;
  fits = a_vector;
}

pub not-eq : (a b : ℕ) → (a ≡ b → ⊥) → nat_eq a b ≡ false
not-eq a b ne = of (nat_eq a b) refl
  where
    of : (r : Bool) → nat_eq a b ≡ r → nat_eq a b ≡ false
    of true e = absurd (ne (grind arith))
    of false e = e

-- as the code finds it
pub long-of : (it : Shown) (f : Form) (n : Bool) (r w : ℕ) → r ≡ (if n then length it.refs else length it.nums) → w ≡ (if n then 1 else 2) → n ≡ is_number_form f → r ≡ w → rest it f ≡ wanted f
long-of it f n r w is wants number same =
    sym (is ∙ ap (λ (b : Bool). if b then length it.refs else length it.nums) number) ∙ same ∙ wants ∙ ap (λ (b : Bool). if b then 1 else 2) number

pub bound-of : (it : Shown) (word : ℕ) (o : Option ℤ) (z : ℤ) → word ≡ word_in it 1 → o ≡ int_in word → o ≡ Some z → word < 2 ^ 64 → int_in (word_in it 1) ≡ Some (to_z w32 (of_z w32 z))
bound-of it word o z at is some lt = ap int_in (sym at) ∙ sym is ∙ some ∙ ap (λ (y : ℤ). Some y) (sym (the-int word z lt (sym is ∙ some)))
