-- The same with a number of steps, of which the last may be cut.
use Rattle.std.proofs.Common.{◌≡◌, ◌⊎◌, inl, inr, ⊎_elim, ℕ, zero, suc, List, [], ◌∷◌, ◌++◌, length, take, drop, refl, sym, ◌∙◌, ap, subst, append_assoc, arith, Option, None}
use Rattle.std.proofs.lemmas.List.{append-nil}
use Rattle.ps_outside.specs.Outside.{Adds, IsPrefix}
use Rattle.commit_moments.specs.Steps.{Step, output_by, heap_of, heap_after, output_next, commit_next, StandsForSome, Amid}
use Rattle.commit_moments.specs.Numbers.{AreEvents, ShowsFirst}
use Rattle.commit_moments.proofs.StepLaws.{told-append, heap-append}

take_done : {H : Type 0} (done rest : List (Step H)) → take (length done) (done ++ rest) ≡ done
take_done [] rest = refl
take_done {H = H} (s ∷ done) rest = ap (λ (xs : List (Step H)). s ∷ xs) (take_done done rest)

drop_done : {H : Type 0} (done rest : List (Step H)) → drop (length done) (done ++ rest) ≡ rest
drop_done [] rest = refl
drop_done (s ∷ done) rest = drop_done done rest

take_next : {H : Type 0} (done rest : List (Step H)) (next : Step H) → take (suc (length done)) (done ++ next ∷ rest) ≡ done ++ next ∷ []
take_next [] rest next = refl
take_next {H = H} (s ∷ done) rest next = ap (λ (xs : List (Step H)). s ∷ xs) (take_next done rest next)

take_less : {H : Type 0} (done rest : List (Step H)) (j : ℕ) → suc j ≡ length done → IsPrefix (output_by (take j (done ++ rest))) (output_by done)
take_less [] rest j e = absurd (omega arith)
take_less (s ∷ done) rest zero e = record { rest = output_by (s ∷ done); whole_is = refl }
take_less (s ∷ done) rest (suc j) e =
    let is = take_less done rest j (omega arith) in
    record { rest = is.rest; whole_is = ap (λ (xs : List ℕ). s.output ++ xs) is.whole_is ∙ sym (append_assoc s.output (output_by (take j (done ++ rest))) is.rest) }

event_in : {H : Type 0} (done rest : List (Step H)) (next : Step H) → AreEvents (done ++ next ∷ rest) → (next.commits ≡ None) ⊎ (next.output ≡ [])
event_in [] rest next are = are.0
event_in (s ∷ done) rest next are = event_in done rest next are.1

module _ {X H : Type 0} (stands : X → H → Type 0) (start : H) (told_before : List ℕ → Type 0) (bytes : List ℕ) (images : X → Type 0) where
  -- the front of the next is empty
  whole : (done rest : List (Step H)) → Adds told_before (output_by done ++ []) bytes → ((x : X) → images x → stands x (heap_after start done) ⊎ StandsForSome stands x (commit_next rest)) → ShowsFirst stands start (done ++ rest) told_before bytes images
  whole done rest told leaves = record {
    k = length done;
    front = output_by done;
    told = subst (λ (xs : List ℕ). Adds told_before xs bytes) (append-nil (output_by done)) told;
    no_more = record { rest = []; whole_is = ap output_by (take_done done rest) ∙ sym (append-nil (output_by done)) };
    no_less = λ j e. take_less done rest j (omega arith);
    leaves = λ x at. ⊎_elim
        (λ old. inl (subst (λ (xs : List (Step H)). stands x (heap_after start xs)) (sym (take_done done rest)) old))
        (λ new. inr (subst (λ (xs : List (Step H)). StandsForSome stands x (commit_next xs)) (sym (drop_done done rest)) new))
        (leaves x at);
  }

  -- or it isn't, and the next commits nothing
  cut : (done rest : List (Step H)) (next : Step H) (front : List ℕ) → next.commits ≡ None → IsPrefix front next.output → Adds told_before (output_by done ++ front) bytes
      → ((x : X) → images x → stands x (heap_after start done) ⊎ StandsForSome stands x next.commits) → ShowsFirst stands start (done ++ next ∷ rest) told_before bytes images
  cut done rest next front none is_prefix told leaves = record {
    k = suc (length done);
    front = output_by done ++ front;
    told = told;
    no_more = record {
      rest = is_prefix.rest;
      whole_is =
          ap output_by (take_next done rest next)
          ∙ told-append done (next ∷ [])
          ∙ ap (λ (xs : List ℕ). output_by done ++ xs) (append-nil next.output ∙ is_prefix.whole_is)
          ∙ sym (append_assoc (output_by done) front is_prefix.rest);
    };
    no_less = λ j e. record { rest = front; whole_is = ap (λ (xs : List (Step H)). output_by xs ++ front) (sym (take_done done (next ∷ rest)) ∙ ap (λ (n : ℕ). take n (done ++ next ∷ rest)) (let l : length done ≡ j = omega arith in l)) };
    leaves = λ x at. inl (subst (λ (xs : List (Step H)). stands x (heap_after start xs)) (sym (take_next done rest next))
        (subst (λ (h : H). stands x h) (ap (heap_of (heap_after start done)) (sym none) ∙ sym (heap-append start done (next ∷ [])))
        (⊎_elim (λ old. old) (λ new. absurd (subst (λ (c : Option H). StandsForSome stands x c) none new)) (leaves x at))));
  }

  numbered : (done rest : List (Step H)) (front : List ℕ) → AreEvents (done ++ rest) → IsPrefix front (output_next rest) → Adds told_before (output_by done ++ front) bytes
      → ((x : X) → images x → stands x (heap_after start done) ⊎ StandsForSome stands x (commit_next rest)) → ShowsFirst stands start (done ++ rest) told_before bytes images
  numbered done rest [] are is_prefix told leaves = whole done rest told leaves
  numbered done [] (f ∷ front) are is_prefix told leaves = absurd (let e = is_prefix.whole_is in cc)
  numbered done (next ∷ rest) (f ∷ front) are is_prefix told leaves = ⊎_elim
      (λ none. cut done rest next (f ∷ front) none is_prefix told leaves)
      (λ silent. absurd (let e : [] ≡ f ∷ (front ++ is_prefix.rest) = sym silent ∙ is_prefix.whole_is in cc))
      (event_in done rest next are)

  pub amid_shows : (steps : List (Step H)) → AreEvents steps → Amid stands start steps told_before bytes images → ShowsFirst stands start steps told_before bytes images
  amid_shows steps are is = subst (λ (xs : List (Step H)). ShowsFirst stands start xs told_before bytes images) (sym is.steps_are)
      (numbered is.done is.rest is.front (subst (λ (xs : List (Step H)). AreEvents xs) is.steps_are are) is.is_prefix is.told is.leaves)
