-- Fields that are counted one by one, with the bits that tell which are bools.
use Rattle.std.proofs.Common.{inl, inr, ◌≡◌, ℕ, ◌+◌, ◌-◌, ◌*◌, ◌/◌, ◌%◌, ◌^◌, ◌<◌, ◌≤◌, true, false, List, [], ◌∷◌, ◌++◌, length, refl, sym, ap, ◌∙◌, subst, arith, add-one, append_assoc, length-append}
use Rattle.std.proofs.Math.Nat.{pow-suc, add-mul-div_right, add-mul-mod_self_right, div-mul-le_self}
use Rattle.heap_places.specs.text_forms.declared.forms.Form.{Form}
use Rattle.heap_places.specs.text_forms.declared.forms.Form.TheVariants.{Number, Flag, Reference}
use Rattle.heap_places.specs.text_forms.declared.forms.Rows.{Rows}
use Rattle.heap_places.specs.text_forms.Forms.{forms_of, forms_from, form_here, rows_of, one_more}
use Rattle.heap_places.specs.text_forms.Steps.{behind_first, is_field}
use Rattle.heap_places.proofs.of_text_forms.Places.{rows_of-last}
use Rattle.heap_places.proofs.of_text_forms.Passing.{Passed, forms-first, a_field, all_passed, all_counted}
use Rattle.structure_rows.specs.declared.marks.FieldRows.{FieldRows}
use Rattle.structure_rows.specs.Marks.{AreMarked, AreFew, HasTooMany, TellRows}
use Rattle.structure_rows.specs.inside.Counting.{marked_with, IsFullFor, CountsField}

twice : (n : ℕ) → 2 ^ (n + 1) ≡ 2 ^ n * 2
twice n = ap (λ (k : ℕ). 2 ^ k) (add-one n) ∙ pow-suc 2 n

half-below : (bits n : ℕ) → bits < 2 ^ (n + 1) → bits / 2 < 2 ^ n
half-below bits n below = let low = div-mul-le_self bits 2 in let double = twice n in omega (arith, low, double, below)

same-first : (bits n : ℕ) (f : Form) → marked_with bits (n + 1) f % 2 ≡ bits % 2
same-first bits n Number = refl
same-first bits n Reference = refl
same-first bits n Flag = ap (λ (k : ℕ). (bits + k) % 2) (twice n) ∙ add-mul-mod_self_right bits (2 ^ n) 2

same-rest : (bits n : ℕ) (f : Form) → marked_with bits (n + 1) f / 2 ≡ marked_with (bits / 2) n f
same-rest bits n Number = refl
same-rest bits n Reference = refl
same-rest bits n Flag = ap (λ (k : ℕ). (bits + k) / 2) (twice n) ∙ add-mul-div_right bits (2 ^ n) (omega arith)

marked-first : (bits : ℕ) (f : Form) → bits < 1 → AreMarked (marked_with bits 0 f) (f ∷ [])
marked-first bits Reference low = tt
marked-first bits Number low = let none : bits ≡ 0 = omega (arith, low) in (ap (λ (b : ℕ). b % 2) none, tt)
marked-first bits Flag low = let none : bits ≡ 0 = omega (arith, low) in (ap (λ (b : ℕ). (b + 1) % 2) none, tt)

-- one field more
marked-more : (forms : List Form) (bits : ℕ) (f : Form) → AreMarked bits forms → bits < 2 ^ (rows_of forms).nums
    → AreMarked (marked_with bits (rows_of forms).nums f) (forms ++ f ∷ [])
unfolding rows_of
marked-more [] bits f marked below = marked-first bits f below
marked-more (Reference ∷ forms) bits f marked below = marked-more forms bits f marked below
marked-more (Number ∷ forms) bits f marked below =
    let n = (rows_of forms).nums in (
      same-first bits n f ∙ marked.0,
      subst (λ (b : ℕ). AreMarked b (forms ++ f ∷ [])) (sym (same-rest bits n f)) (marked-more forms (bits / 2) f marked.1 (half-below bits n below)),
    )
marked-more (Flag ∷ forms) bits f marked below =
    let n = (rows_of forms).nums in (
      same-first bits n f ∙ marked.0,
      subst (λ (b : ℕ). AreMarked b (forms ++ f ∷ [])) (sym (same-rest bits n f)) (marked-more forms (bits / 2) f marked.1 (half-below bits n below)),
    )

below-more : (bits : ℕ) (rows : Rows) (f : Form) → bits < 2 ^ rows.nums → marked_with bits rows.nums f < 2 ^ (one_more f rows).nums
below-more bits rows Reference below = below
below-more bits rows Number below = let double = twice rows.nums in omega (arith, double, below)
below-more bits rows Flag below = let double = twice rows.nums in omega (arith, double, below)

one_byte : (rest : List ℕ) → is_field rest ≡ true → 1 ≤ length rest
one_byte [] h = absurd (cc)
one_byte (b ∷ bs) h = omega arith

-- What is known before each field.
pub record IsCounted (text : List ℕ) (fields : FieldRows) (rest : List ℕ) : Type 0 where
  pub passed : Passed text fields.rows rest
  pub marked : AreMarked fields.flags.bits passed.forms
  pub below : fields.flags.bits < 2 ^ fields.rows.nums
  pub few : AreFew fields.rows

pub none-counted : (text rest : List ℕ) → rest ≡ behind_first 40 text → length rest ≤ length text - 1
    → IsCounted text (record { rows = record { refs = 0; nums = 0 }; flags = record { bits = 0 } }) rest
unfolding rows_of
none-counted text rest is shorter = record {
  passed = record {
    forms = [];
    whole = forms-first text ∙ ap (forms_from true) (sym is);
    counts = refl;
    within = omega (arith, shorter);
  };
  marked = tt;
  below = omega arith;
  few = record { nums = omega arith; refs = omega arith };
}

pub one-counted : (text : List ℕ) (form : Form) (fields more : FieldRows) (rest further : List ℕ) → IsCounted text fields rest → is_field rest ≡ true
    → form ≡ form_here rest → CountsField fields form more
    → further ≡ behind_first 59 rest → length further ≤ length rest - 1 → IsCounted text more further
one-counted text form fields more rest further c field here counts is shorter =
    let p = c.passed in
    let rows = counts.rows in
    let bits = counts.bits in
    let b = fields.flags.bits in
    let n : fields.rows.nums ≡ (rows_of p.forms).nums = ap (λ (r : Rows). r.nums) p.counts in
    let left : forms_from true rest ≡ form ∷ forms_from true further = a_field rest field
    ∙ ap (λ (g : Form). g ∷ forms_from true (behind_first 59 rest)) (sym here) ∙ ap (λ (l : List ℕ). form ∷ forms_from true l) (sym is) in
    record {
      passed = record {
        forms = p.forms ++ form ∷ [];
        whole = p.whole ∙ ap (λ (l : List Form). p.forms ++ l) left ∙ sym (append_assoc p.forms (form ∷ []) (forms_from true further));
        counts = rows ∙ ap (one_more form) p.counts ∙ sym (rows_of-last p.forms form);
        within = let in_all = p.within in omega (arith, in_all, one_byte rest field, shorter, length-append p.forms (form ∷ []));
      };
      marked =
          subst (λ (k : ℕ). AreMarked k (p.forms ++ form ∷ [])) (sym (bits ∙ ap (λ (k : ℕ). marked_with b k form) n))
          (marked-more p.forms b form c.marked (subst (λ (k : ℕ). b < 2 ^ k) n c.below));
      below =
          subst (λ (k : ℕ). k < 2 ^ more.rows.nums) (sym bits)
          (subst (λ (r : Rows). marked_with b fields.rows.nums form < 2 ^ r.nums) (sym rows) (below-more b fields.rows form c.below));
      few = counts.few;
    }

-- A row has as many as were counted and the next one.

nums-past : (xs ys : List Form) (f : Form) → (rows_of xs).nums + (rows_of (f ∷ [])).nums ≤ (rows_of (xs ++ f ∷ ys)).nums
unfolding rows_of
nums-past [] ys Number = omega arith
nums-past [] ys Flag = omega arith
nums-past [] ys Reference = omega arith
nums-past (Number ∷ xs) ys f = omega (arith, nums-past xs ys f)
nums-past (Flag ∷ xs) ys f = omega (arith, nums-past xs ys f)
nums-past (Reference ∷ xs) ys f = omega (arith, nums-past xs ys f)

refs-past : (xs ys : List Form) (f : Form) → (rows_of xs).refs + (rows_of (f ∷ [])).refs ≤ (rows_of (xs ++ f ∷ ys)).refs
unfolding rows_of
refs-past [] ys Number = omega arith
refs-past [] ys Flag = omega arith
refs-past [] ys Reference = omega arith
refs-past (Number ∷ xs) ys f = omega (arith, refs-past xs ys f)
refs-past (Flag ∷ xs) ys f = omega (arith, refs-past xs ys f)
refs-past (Reference ∷ xs) ys f = omega (arith, refs-past xs ys f)

too-many : (xs ys : List Form) (f : Form) → IsFullFor f (rows_of xs) → HasTooMany (xs ++ f ∷ ys)
unfolding rows_of
too-many xs ys Number full = inl (omega (arith, full, nums-past xs ys Number))
too-many xs ys Flag full = inl (omega (arith, full, nums-past xs ys Flag))
too-many xs ys Reference full = inr (omega (arith, full, refs-past xs ys Reference))

pub not-counted : (text : List ℕ) (form : Form) (fields : FieldRows) (rest : List ℕ) → IsCounted text fields rest → is_field rest ≡ true
    → form ≡ form_here rest → IsFullFor form fields.rows → HasTooMany (forms_of text)
not-counted text form fields rest c field here full =
    let p = c.passed in
    let left : forms_from true rest ≡ form ∷ forms_from true (behind_first 59 rest) = a_field rest field
    ∙ ap (λ (g : Form). g ∷ forms_from true (behind_first 59 rest)) (sym here) in
    subst HasTooMany (sym (p.whole ∙ ap (λ (l : List Form). p.forms ++ l) left))
    (too-many p.forms (forms_from true (behind_first 59 rest)) form (subst (IsFullFor form) p.counts full))

pub all-known : (text : List ℕ) (fields : FieldRows) (rest : List ℕ) → IsCounted text fields rest → is_field rest ≡ false → TellRows fields (forms_of text)
all-known text fields rest c none = record {
  few = c.few;
  rows = all_counted text fields.rows rest c.passed none;
  marked = subst (AreMarked fields.flags.bits) (sym (all_passed text fields.rows rest c.passed none)) c.marked;
}
