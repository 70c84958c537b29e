-- What a comparison of bytes tells of the texts of types.
use Rattle.std.proofs.Common.{◌≡◌, ℕ, suc, slice_index_or, Bool, true, false, ◌&&◌, if◌then◌else◌, List, [], ◌∷◌, length, take, nat_eq, refl, sym, ap, ◌∙◌, arith}
use Rattle.std.specs.Prelude.{codes}
use Rattle.std.specs.Cmp.Lexicographic.{pointwise}
use Rattle.text_forms.specs.declared.forms.Form.TheVariants.{Number, Flag, Reference}
use Rattle.text_forms.specs.Forms.{begins, is_text, form_here}

both : (x y z : Bool) → y ≡ z → (x && y) ≡ (if x then z else false)
both true y z e = e
both false y z e = refl

turned : (a b : ℕ) → nat_eq a b ≡ nat_eq b a
turned a b = grind arith

pub begins_with : (p s : List ℕ) → pointwise nat_eq p (take (length p) s) ≡ begins p s
unfolding begins
begins_with [] s = refl
begins_with (c ∷ p) [] = refl
begins_with (c ∷ p) (b ∷ s) = ap (λ x. x && pointwise nat_eq p (take (length p) s)) (turned c b) ∙ both (nat_eq b c) _ _ (begins_with p s)

-- the form by two tests
pub form_by : (s : List ℕ) (number flag : Bool) → number ≡ pointwise nat_eq (codes "int ") (take 4 s) → flag ≡ pointwise nat_eq (codes "bool ") (take 5 s)
    → form_here s ≡ (if number then Number else (if flag then Flag else Reference))
unfolding form_here
form_by s number flag n f =
    ap (λ x. if x then Number else (if begins (codes "bool ") s then Flag else Reference)) (sym (n ∙ begins_with (codes "int ") s))
    ∙ ap (λ x. if number then Number else (if x then Flag else Reference)) (sym (f ∙ begins_with (codes "bool ") s))

-- A text byte by byte.

never : (x y : Bool) → y ≡ false → (if x then y else false) ≡ false
never true y e = e
never false y e = refl

pub other_length : (p s : List ℕ) → (length s ≡ length p → ⊥) → is_text p s ≡ false
unfolding is_text
other_length [] [] other = absurd (other refl)
other_length [] (b ∷ s) other = refl
other_length (c ∷ p) [] other = refl
other_length (c ∷ p) (b ∷ s) other = never (nat_eq b c) (is_text p s) (other_length p s (λ e. other (ap suc e)))

whole : (x : Bool) → (if x then true else false) ≡ x
whole true = refl
whole false = refl

pub of_four : (a b c d : ℕ) (s : List ℕ) → length s ≡ 4 → is_text (a ∷ b ∷ c ∷ d ∷ []) s
    ≡ (if nat_eq (slice_index_or s 0 0) a then (if nat_eq (slice_index_or s 1 0) b then (if nat_eq (slice_index_or s 2 0) c then nat_eq (slice_index_or s 3 0) d else false) else false) else false)
unfolding is_text
of_four a b c d [] e = absurd (cc)
of_four a b c d (w ∷ []) e = absurd (cc)
of_four a b c d (w ∷ x ∷ []) e = absurd (cc)
of_four a b c d (w ∷ x ∷ y ∷ []) e = absurd (cc)
of_four a b c d (w ∷ x ∷ y ∷ z ∷ []) e =
    ap (λ (last : Bool). if nat_eq w a then (if nat_eq x b then (if nat_eq y c then last else false) else false) else false) (whole (nat_eq z d))
of_four a b c d (w ∷ x ∷ y ∷ z ∷ v ∷ s) e = absurd (omega (arith, e))

pub of_five : (a b c d f : ℕ) (s : List ℕ) → length s ≡ 5 → is_text (a ∷ b ∷ c ∷ d ∷ f ∷ []) s
    ≡ (if nat_eq (slice_index_or s 0 0) a then (if nat_eq (slice_index_or s 1 0) b then (if nat_eq (slice_index_or s 2 0) c
    then (if nat_eq (slice_index_or s 3 0) d then nat_eq (slice_index_or s 4 0) f else false) else false) else false) else false)
unfolding is_text
of_five a b c d f [] e = absurd (cc)
of_five a b c d f (w ∷ []) e = absurd (cc)
of_five a b c d f (w ∷ x ∷ []) e = absurd (cc)
of_five a b c d f (w ∷ x ∷ y ∷ []) e = absurd (cc)
of_five a b c d f (w ∷ x ∷ y ∷ z ∷ []) e = absurd (cc)
of_five a b c d f (w ∷ x ∷ y ∷ z ∷ v ∷ []) e =
    ap (λ (last : Bool). if nat_eq w a then (if nat_eq x b then (if nat_eq y c then (if nat_eq z d then last else false) else false) else false) else false) (whole (nat_eq v f))
of_five a b c d f (w ∷ x ∷ y ∷ z ∷ v ∷ u ∷ s) e = absurd (omega (arith, e))
