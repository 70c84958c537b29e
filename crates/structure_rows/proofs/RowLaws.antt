-- The rows of a structure, and the values of its fields in their order.
use Rattle.std.proofs.Common.{◌≡◌, ℕ, zero, suc, ◌/◌, ◌%◌, ◌<◌, ◌≤◌, ◌==◌, true, false, ℤ, List, [], ◌∷◌, ◌++◌, length, Some, refl, sym, ap, ◌∙◌, subst, arith, append-nil}
use Rattle.std.specs.Prelude.{if◌then◌else◌}
use Rattle.heap_places.specs.obj_layout.declared.reference.Reference.{Reference}
use Rattle.heap_places.specs.swizzle.Heap.{reference_to}
use Rattle.heap_places.specs.text_forms.declared.forms.Form.{Form}
use Rattle.heap_places.specs.text_forms.declared.forms.Form.TheVariants as form
use Rattle.heap_places.specs.text_forms.Forms.{rows_of}
use Rattle.heap_places.specs.declared.value.Value as code
use Rattle.heap_places.specs.declared.value.Value.TheVariants as held
use Rattle.heap_places.specs.Words.{int_word, flag_word}
use Rattle.heap_places.specs.Filling.{refs_of, words_of}
use Rattle.heap_places.specs.ps_heap.Values.{is_one}
use Rattle.structure_rows.specs.Marks.{AreMarked}
use Rattle.structure_rows.specs.Rows.{object_in, kept, kept_one, named, row_values}

-- the values in code of fields of these forms, taken from the two rows
abbrev pub codes : List Form → List ℤ → List ℕ → List code.Value
codes (form.Reference ∷ fs) zs (w ∷ ws) = held.Ref (object_in w) ∷ codes fs zs ws
codes (form.Number ∷ fs) (z ∷ zs) ws = held.Num z ∷ codes fs zs ws
codes (form.Flag ∷ fs) (z ∷ zs) ws = held.Flag (is_one z) ∷ codes fs zs ws
codes _ zs ws = []

-- The same references and words, whatever the order of the fields.

pub refs-codes : (fs : List Form) (zs : List ℤ) (ws : List ℕ) → (rows_of fs).nums ≡ length zs → (rows_of fs).refs ≡ length ws
    → refs_of (codes fs zs ws) ≡ refs_of (named ws)
unfolding rows_of refs_of
refs-codes [] zs [] n r = refl
refs-codes [] zs (w ∷ ws) n r = absurd (omega (arith, r))
refs-codes (form.Reference ∷ fs) zs (w ∷ ws) n r = ap (λ (l : List Reference). reference_to (object_in w) ∷ l) (refs-codes fs zs ws n (omega (arith, r)))
refs-codes (form.Reference ∷ fs) zs [] n r = absurd (omega (arith, r))
refs-codes (form.Number ∷ fs) (z ∷ zs) ws n r = refs-codes fs zs ws (omega (arith, n)) r
refs-codes (form.Number ∷ fs) [] ws n r = absurd (omega (arith, n))
refs-codes (form.Flag ∷ fs) (z ∷ zs) ws n r = refs-codes fs zs ws (omega (arith, n)) r
refs-codes (form.Flag ∷ fs) [] ws n r = absurd (omega (arith, n))

one-number : (bits : ℕ) (z : ℤ) → bits % 2 ≡ 0 → kept_one bits z ≡ held.Num z
one-number bits z e = ap (λ (k : ℕ). if k == 1 then held.Flag (is_one z) else held.Num z) e

one-flag : (bits : ℕ) (z : ℤ) → bits % 2 ≡ 1 → kept_one bits z ≡ held.Flag (is_one z)
one-flag bits z e = ap (λ (k : ℕ). if k == 1 then held.Flag (is_one z) else held.Num z) e

pub words-codes : (fs : List Form) (bits : ℕ) (zs : List ℤ) (ws : List ℕ) → AreMarked bits fs → (rows_of fs).nums ≡ length zs → (rows_of fs).refs ≡ length ws
    → words_of (codes fs zs ws) ≡ words_of (kept bits zs)
unfolding rows_of words_of
words-codes [] bits [] ws marked n r = refl
words-codes [] bits (z ∷ zs) ws marked n r = absurd (omega (arith, n))
words-codes (form.Reference ∷ fs) bits zs (w ∷ ws) marked n r = words-codes fs bits zs ws marked n (omega (arith, r))
words-codes (form.Reference ∷ fs) bits zs [] marked n r = absurd (omega (arith, r))
words-codes (form.Number ∷ fs) bits (z ∷ zs) ws marked n r =
    ap (λ (l : List ℕ). int_word z ∷ l) (words-codes fs (bits / 2) zs ws marked.1 (omega (arith, n)) r)
    ∙ sym (ap (λ (k : code.Value). words_of (k ∷ kept (bits / 2) zs)) (one-number bits z marked.0))
words-codes (form.Number ∷ fs) bits [] ws marked n r = absurd (omega (arith, n))
words-codes (form.Flag ∷ fs) bits (z ∷ zs) ws marked n r =
    ap (λ (l : List ℕ). flag_word (is_one z) ∷ l) (words-codes fs (bits / 2) zs ws marked.1 (omega (arith, n)) r)
    ∙ sym (ap (λ (k : code.Value). words_of (k ∷ kept (bits / 2) zs)) (one-flag bits z marked.0))
words-codes (form.Flag ∷ fs) bits [] ws marked n r = absurd (omega (arith, n))

pub refs-append : (xs ys : List code.Value) → refs_of (xs ++ ys) ≡ refs_of xs ++ refs_of ys
unfolding refs_of
refs-append [] ys = refl
refs-append (held.Num z ∷ xs) ys = refs-append xs ys
refs-append (held.Flag b ∷ xs) ys = refs-append xs ys
refs-append (held.Ref to ∷ xs) ys = ap (λ (l : List Reference). reference_to to ∷ l) (refs-append xs ys)

pub words-append : (xs ys : List code.Value) → words_of (xs ++ ys) ≡ words_of xs ++ words_of ys
unfolding words_of
words-append [] ys = refl
words-append (held.Num z ∷ xs) ys = ap (λ (l : List ℕ). int_word z ∷ l) (words-append xs ys)
words-append (held.Flag b ∷ xs) ys = ap (λ (l : List ℕ). flag_word b ∷ l) (words-append xs ys)
words-append (held.Ref to ∷ xs) ys = words-append xs ys

pub named-words : (ws : List ℕ) → words_of (named ws) ≡ []
unfolding words_of
named-words [] = refl
named-words (w ∷ ws) = named-words ws

pub named-long : (ws : List ℕ) → length (refs_of (named ws)) ≡ length ws
unfolding refs_of
named-long [] = refl
named-long (w ∷ ws) = ap suc (named-long ws)

pub by-bit : {A : Type 0} (P : code.Value → A) (bits : ℕ) (z : ℤ) (a : A) → P (held.Flag (is_one z)) ≡ a → P (held.Num z) ≡ a → P (kept_one bits z) ≡ a
by-bit P bits z a flag number = elim (bits % 2 == 1) as (λ b. P (if b then held.Flag (is_one z) else held.Num z) ≡ a) [ true ↦ flag | false ↦ number ]

pub kept-refs : (zs : List ℤ) (bits : ℕ) → refs_of (kept bits zs) ≡ []
unfolding refs_of
kept-refs [] bits = refl
kept-refs (z ∷ zs) bits =
    by-bit (λ k. refs_of (k ∷ kept (bits / 2) zs)) bits z [] (kept-refs zs (bits / 2)) (kept-refs zs (bits / 2))

pub kept-long : (zs : List ℤ) (bits : ℕ) → length (words_of (kept bits zs)) ≡ length zs
unfolding words_of
kept-long [] bits = refl
kept-long (z ∷ zs) bits =
    by-bit (λ k. length (words_of (k ∷ kept (bits / 2) zs))) bits z (suc (length zs)) (ap suc (kept-long zs (bits / 2))) (ap suc (kept-long zs (bits / 2)))

pub same-refs : (fs : List Form) (bits : ℕ) (zs : List ℤ) (ws : List ℕ) → (rows_of fs).nums ≡ length zs → (rows_of fs).refs ≡ length ws
    → refs_of (row_values bits zs ws) ≡ refs_of (codes fs zs ws)
same-refs fs bits zs ws n r =
    refs-append (named ws) (kept bits zs) ∙ ap (λ (l : List Reference). refs_of (named ws) ++ l) (kept-refs zs bits) ∙ append-nil (refs_of (named ws))
    ∙ sym (refs-codes fs zs ws n r)

pub same-words : (fs : List Form) (bits : ℕ) (zs : List ℤ) (ws : List ℕ) → AreMarked bits fs → (rows_of fs).nums ≡ length zs → (rows_of fs).refs ≡ length ws
    → words_of (row_values bits zs ws) ≡ words_of (codes fs zs ws)
same-words fs bits zs ws marked n r =
    words-append (named ws) (kept bits zs) ∙ ap (λ (l : List ℕ). l ++ words_of (kept bits zs)) (named-words ws) ∙ sym (words-codes fs bits zs ws marked n r)
