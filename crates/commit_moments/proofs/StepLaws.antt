-- Steps, one after another.
use Rattle.std.proofs.Common.{◌≡◌, ◌⊎◌, inl, inr, ⊎_elim, ℕ, List, [], ◌∷◌, ◌++◌, refl, sym, ◌∙◌, ap, subst, append_assoc, Option}
use Rattle.ps_outside.specs.Outside.{IsPrefix}
use Rattle.commit_moments.specs.Steps.{Step, output_by, heap_of, heap_after, AreQuiet, output_next, commit_next, StandsForSome, Amid}

pub told-append : {H : Type 0} (xs ys : List (Step H)) → output_by (xs ++ ys) ≡ output_by xs ++ output_by ys
told-append [] ys = refl
told-append (x ∷ xs) ys = ap (λ (zs : List ℕ). x.output ++ zs) (told-append xs ys) ∙ sym (append_assoc x.output (output_by xs) (output_by ys))

pub heap-append : {H : Type 0} (start : H) (xs ys : List (Step H)) → heap_after start (xs ++ ys) ≡ heap_after (heap_after start xs) ys
heap-append start [] ys = refl
heap-append start (x ∷ xs) ys = heap-append (heap_of start x.commits) xs ys

pub heap-quiet : {H : Type 0} (start : H) (xs : List (Step H)) → AreQuiet xs → heap_after start xs ≡ start
heap-quiet start [] quiet = refl
heap-quiet {H = H} start (x ∷ xs) quiet = ap (λ (c : Option H). heap_after (heap_of start c) xs) quiet.0 ∙ heap-quiet start xs quiet.1

pub quiet-append : {H : Type 0} (xs ys : List (Step H)) → AreQuiet xs → AreQuiet ys → AreQuiet (xs ++ ys)
quiet-append [] ys a b = b
quiet-append (x ∷ xs) ys a b = (a.0, quiet-append xs ys a.1 b)

pub quiet-prefix : {H : Type 0} (xs ys : List (Step H)) → AreQuiet (xs ++ ys) → AreQuiet xs
quiet-prefix [] ys q = tt
quiet-prefix (x ∷ xs) ys q = (q.0, quiet-prefix xs ys q.1)

-- some bytes of what steps tell are all of the first ones, and a front of the next
pub record Cuts {H : Type 0} (steps : List (Step H)) (front : List ℕ) : Type 0 where
  pub done : List (Step H)
  pub rest : List (Step H)
  pub steps_are : steps ≡ done ++ rest
  pub cut : List ℕ
  pub front_is : front ≡ output_by done ++ cut
  pub is_prefix : IsPrefix cut (output_next rest)

-- of two fronts of one whole one is a front of the other
two_fronts : (xs ys zs ws : List ℕ) → xs ++ ys ≡ zs ++ ws → IsPrefix zs xs ⊎ ((more : List ℕ) × (zs ≡ xs ++ more) × (ys ≡ more ++ ws))
two_fronts [] ys zs ws e = inr (zs, refl, e)
two_fronts (x ∷ xs) ys [] ws e = inl (record { rest = x ∷ xs; whole_is = refl })
two_fronts (x ∷ xs) ys (z ∷ zs) ws e =
    let head : x ≡ z = cc in
    let tail : xs ++ ys ≡ zs ++ ws = cc in
    ⊎_elim
    (λ f. inl (record { rest = f.rest; whole_is = (λ i. head i ∷ f.whole_is i) }))
    (λ m. inr (m.0, (λ i. sym head i ∷ m.1 i), m.2))
    (two_fronts xs ys zs ws tail)

pub cuts : {H : Type 0} (steps : List (Step H)) (front rest : List ℕ) → output_by steps ≡ front ++ rest → Cuts steps front
cuts [] [] rest e = record { done = []; rest = []; steps_are = refl; cut = []; front_is = refl; is_prefix = record { rest = []; whole_is = refl } }
cuts [] (x ∷ front) rest e = absurd (cc)
cuts {H = H} (s ∷ steps) front rest e =
    ⊎_elim
    (λ f. record { done = []; rest = s ∷ steps; steps_are = refl; cut = front; front_is = refl; is_prefix = f })
    (λ m.
    let is = cuts steps m.0 rest m.2 in
    record {
      done = s ∷ is.done;
      rest = is.rest;
      steps_are = ap (λ (xs : List (Step H)). s ∷ xs) is.steps_are;
      cut = is.cut;
      front_is = m.1 ∙ ap (λ (xs : List ℕ). s.output ++ xs) is.front_is ∙ sym (append_assoc s.output (output_by is.done) is.cut);
      is_prefix = is.is_prefix;
    })
    (two_fronts s.output (output_by steps) front rest e)

-- none of the bytes are a front of any
pub none_prefix : (xs : List ℕ) → IsPrefix [] xs
none_prefix xs = record { rest = xs; whole_is = refl }

pub prefix-nil : (xs : List ℕ) → IsPrefix xs [] → xs ≡ []
prefix-nil [] is = refl
prefix-nil (x ∷ xs) is = absurd (let e = is.whole_is in cc)

-- a front of what the next tells is one where more steps come behind
pub next_more : {H : Type 0} (rest more : List (Step H)) (front : List ℕ) → IsPrefix front (output_next rest) → IsPrefix front (output_next (rest ++ more))
next_more [] more front is = subst (λ (f : List ℕ). IsPrefix f (output_next more)) (sym (prefix-nil front is)) (none_prefix (output_next more))
next_more (r ∷ rest) more front is = is

pub commit_more : {X H : Type 0} (stands : X → H → Type 0) (x : X) (rest more : List (Step H)) → StandsForSome stands x (commit_next rest) → StandsForSome stands x (commit_next (rest ++ more))
commit_more stands x [] more is = absurd is
commit_more stands x (r ∷ rest) more is = is

-- more steps come behind
pub amid_more : {X H : Type 0} (stands : X → H → Type 0) (start : H) (steps more : List (Step H)) (before : List ℕ → Type 0) (bytes : List ℕ) (images : X → Type 0)
    → Amid stands start steps before bytes images → Amid stands start (steps ++ more) before bytes images
amid_more {H = H} stands start steps more before bytes images is = record {
  done = is.done;
  rest = is.rest ++ more;
  steps_are = ap (λ (xs : List (Step H)). xs ++ more) is.steps_are ∙ append_assoc is.done is.rest more;
  front = is.front;
  is_prefix = next_more is.rest more is.front is.is_prefix;
  told = is.told;
  leaves = λ x at. ⊎_elim (λ old. inl old) (λ next. inr (commit_more stands x is.rest more next)) (is.leaves x at);
}

-- fewer images are seen, or others that stand for what they do
pub amid_fewer : {X H : Type 0} (stands : X → H → Type 0) (start : H) (steps : List (Step H)) (before : List ℕ → Type 0) (bytes : List ℕ) (images fewer : X → Type 0)
    → Amid stands start steps before bytes images → ((x : X) → fewer x → images x) → Amid stands start steps before bytes fewer
amid_fewer stands start steps before bytes images fewer is less = record {
  done = is.done;
  rest = is.rest;
  steps_are = is.steps_are;
  front = is.front;
  is_prefix = is.is_prefix;
  told = is.told;
  leaves = λ x at. is.leaves x (less x at);
}
