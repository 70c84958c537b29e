-- Words and what they stand for.
use Rattle.std.proofs.Common.{Result, Ok, Err, ℤ, pos, ◌≡◌, inl, inr, ℕ, ◌-◌, ◌<◌, ◌≤◌, ◌^◌, refl, sym, ap, ◌∙◌, arith, Option, Some, None, nat_eq, w32, w64, to_z, of_z, subst}
use Rattle.std.specs.Prelude.{negsuc, OkIff}
use Rattle.std.specs.Result.{result_ok}
use Rattle.std.proofs.lemmas.Bool.{cases_lt}
use Rattle.std.proofs.lemmas.Result.{OkIff-at_ok, OkIff-at_err}
use Rattle.std.proofs.lemmas.Grind.{common_steps}
use Rattle.std.proofs.lemmas.Int.{to_z-of_z, of_z-to_z}
use mir.Val.{SFits}
use Rattle.heap_places.specs.Words.{flag_in, int_word, int_in}

pub flag_is : (word : ℕ) → word ≤ 1 → flag_in word ≡ Some (nat_eq word 1)
unfolding flag_in
flag_is word le = grind (arith, common_steps)

pub flag_none : (word : ℕ) → 1 < word → flag_in word ≡ None
unfolding flag_in
flag_none word lt = grind (arith, common_steps)

pub int-low : (word : ℕ) → word < 2 ^ 31 → int_in word ≡ Some (pos word)
unfolding int_in
int-low word e = grind (arith, common_steps)

pub int-mid : (word : ℕ) → 2 ^ 31 ≤ word → word < 2 ^ 64 - 2 ^ 31 → int_in word ≡ None
unfolding int_in
int-mid word e f = grind (arith, common_steps)

pub int-high : (word : ℕ) → 2 ^ 64 - 2 ^ 31 ≤ word → int_in word ≡ Some (negsuc (2 ^ 64 - 1 - word))
unfolding int_in
int-high word e = grind (arith, common_steps)

wide : (z : ℤ) → SFits w32 z → SFits w64 z
wide z f = record { sfits = omega (arith, f.sfits) }

of-int : (z : ℤ) → of_z w64 z ≡ int_word z
unfolding int_word
of-int (pos n) = refl
of-int (negsuc n) = omega arith

pub word-int : (z y : ℤ) (n : ℕ) → SFits w32 z → y ≡ to_z w32 (of_z w32 z) → n ≡ of_z w64 (to_z w64 (of_z w64 y)) → n ≡ int_word z
word-int z y n f a b =
    let same : y ≡ z = a ∙ to_z-of_z w32 z f in
    b ∙ ap (λ (x : ℤ). of_z w64 (to_z w64 (of_z w64 x))) same ∙ ap (of_z w64) (to_z-of_z w64 z (wide z f)) ∙ of-int z

int-some : (z : ℤ) (word : ℕ) → of_z w64 z ≡ word → SFits w32 z → int_in word ≡ Some z
int-some (pos n) word e f = int-low word (omega (arith, f.sfits)) ∙ ap (λ (x : ℕ). Some (pos x)) (sym e)
int-some (negsuc n) word e f =
    int-high word (omega (arith, f.sfits)) ∙ ap (λ (x : ℕ). Some (negsuc x)) (omega (arith, f.sfits))

int-none : (z : ℤ) (word : ℕ) → of_z w64 z ≡ word → SFits w64 z → (SFits w32 z → ⊥) → int_in word ≡ None
int-none (pos n) word e w not =
    int-mid word (elim (cases_lt n (2 ^ 31)) [ inl lt ↦ absurd (not (record { sfits = lt })) | inr ge ↦ omega arith ]) (omega (arith, w.sfits))
int-none (negsuc n) word e w not =
    elim (cases_lt n (2 ^ 31)) [ inl lt ↦ absurd (not (record { sfits = lt })) | inr ge ↦ int-mid word (omega (arith, w.sfits)) (omega (arith, w.sfits)) ]

tried : {E : Type 0} (r : Result ℤ E) (z : ℤ) (word : ℕ) → of_z w64 z ≡ word → SFits w64 z → OkIff r (SFits w32 z) z → result_ok r ≡ int_in word
tried {E} (Ok x) z word e w t =
    let both = OkIff-at_ok {E = E} (Ok x) (SFits w32 z) z x t refl in
    ap (λ (y : ℤ). Some y) both.1 ∙ sym (int-some z word e both.0)
tried {E} (Err d) z word e w t = sym (int-none z word e w (OkIff-at_err {E = E} (Err d) (SFits w32 z) z d t refl))

pub int-tried : {E : Type 0} (r : Result ℤ E) (o : Option ℤ) (z : ℤ) (word : ℕ) → word < 2 ^ 64 → z ≡ to_z w64 word → SFits w64 z
    → OkIff r (SFits w32 (to_z w64 (of_z w64 z))) (to_z w64 (of_z w64 z)) → o ≡ result_ok r → o ≡ int_in word
int-tried r o z word lt e w t is =
    let same = to_z-of_z w64 z w in
    is ∙ tried r z word (ap (of_z w64) e ∙ of_z-to_z w64 word lt) w (subst (λ (x : ℤ). OkIff r (SFits w32 x) x) same t)
