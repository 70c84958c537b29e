-- What the definition excludes, on small runs.
use Rattle.std.proofs.Common.{◌≡◌, ◌⊎◌, ⊎_elim, ℕ, List, [], ◌∷◌, ◌++◌, refl, sym, ◌∙◌, ap, subst, Some, None}
use Rattle.ps_outside.specs.Outside.{Adds}
use Rattle.commit_moments.specs.Steps.{Step, output_by, heap_after, commit_next, StandsForSome, Amid, broken}

abbrev pub one_told : List ℕ → Type 0
one_told b = b ≡ []

not_held_back : (done rest : List (Step ℕ)) (front : List ℕ) → broken (7 ∷ []) None ∷ broken [] (Some 1) ∷ [] ≡ done ++ rest → Adds one_told (output_by done ++ front) []
    → ((x : ℕ) → x ≡ 1 → (x ≡ heap_after 0 done) ⊎ StandsForSome (λ y h. y ≡ h) x (commit_next rest)) → ⊥
not_held_back [] rest front e told leaves = ⊎_elim
    (λ old. absurd (let o : 1 ≡ 0 = old in cc))
    (λ next. absurd (subst (λ (r : List (Step ℕ)). StandsForSome (λ y h. y ≡ h) 1 (commit_next r)) (sym e) next)) (leaves 1 refl)
not_held_back (s ∷ done) rest front e told leaves =
    let head : broken (7 ∷ []) None ≡ s = cc in
    let here = subst (λ (t : Step ℕ). Adds one_told ((t.output ++ output_by done) ++ front) []) (sym head) told in
    let none : here.before ≡ [] = here.was_told in
    let is : [] ≡ 7 ∷ (output_by done ++ front) = here.bytes_are ∙ ap (λ (b : List ℕ). b ++ (7 ∷ (output_by done ++ front))) none in
    absurd (cc)

pub output_held_back : Amid (λ (y h : ℕ). y ≡ h) 0 (broken (7 ∷ []) None ∷ broken [] (Some 1) ∷ []) one_told [] (λ x. x ≡ 1) → ⊥
output_held_back is = not_held_back is.done is.rest is.front is.steps_are is.told is.leaves
