-- What a commit saves.
use Rattle.std.proofs.Common.{Bool, true, false, inl, inr, ◌⊎◌, ◌≡◌, ℕ, zero, suc, ◌+◌, ◌<◌, ◌≤◌, List, [], ◌∷◌, length, refl, sym, ap, ◌∙◌, subst, arith, Option, Some, None, if◌then◌else◌, nat_eq}
use Rattle.std.specs.Prelude.{not, ◌&&◌}
use Rattle.std.proofs.lemmas.Bool.{cases_Bool, eqb-true, eqb-false}
use Rattle.reaching.specs.Reaching.{IsIn, is_in, at_start, by_step}
use Rattle.reaching.proofs.Lists.{then_is, else_is, is_in-in, in-front, in-behind}
use Rattle.ps_heap.specs.References.{next_in}
use Rattle.ps_heap.specs.Databases.{Directory, database_at, root_of, open_for_writing, is_there}
use Rattle.ps_heap.specs.Held.{Held, StoredHeap, home_at, row}
use Rattle.ps_heap.specs.Commit.{loose_from, loose, roots_of, after_places, starts, IsNewlyReached, first_database, created_with, or_else, home_after, homes_after, are_writable, is_empty, NotWritable, NothingToDo, Saves, saved, decision}
use Rattle.database_meaning.specs.Sound.{IsCommitted, IsSound, AreThere, IsClosed, IsClosedButAssigned}
use Rattle.database_meaning.proofs.HomeLaws.{after_places-in, homed, homed-back}

pub cases_Option : {A : Type 0} (o : Option A) → (o ≡ None) ⊎ ((a : A) × (o ≡ Some a))
cases_Option None = inl refl
cases_Option (Some a) = inr (a, refl)

pub none≢some : {A : Type 0} {a : A} → None ≡ Some a → ⊥
none≢some e = absurd (cc)

-- The decision.

decided : (w b : Bool) (x heap : StoredHeap) → (if not w then NotWritable else if b then NothingToDo else Saves x) ≡ Saves heap → (w ≡ true) × (heap ≡ x)
decided false b x heap e = absurd (cc)
decided true true x heap e = absurd (cc)
decided true false x heap e = (refl, cc)

pub saved-is : (h : Held) (heap : StoredHeap) → decision h ≡ Saves heap → (are_writable h.homes (open_for_writing h.openings) h.assigned ≡ true) × (heap ≡ saved h)
unfolding decision
saved-is h heap e = decided (are_writable h.homes (open_for_writing h.openings) h.assigned) (is_empty h.assigned && is_empty h.created) (saved h) heap e

-- Rows of homes.

pub row-at : (f : ℕ → Option ℕ) (from n id : ℕ) → id < n → home_at (row f from n) id ≡ f (from + id)
unfolding row home_at
row-at f from zero id l = absurd (omega (arith, l))
row-at f from (suc n) zero l = ap f (omega arith)
row-at f from (suc n) (suc id) l = row-at f (suc from) n id (omega (arith, l)) ∙ ap f (omega arith)

pub row-below : (f : ℕ → Option ℕ) (from n id m : ℕ) → home_at (row f from n) id ≡ Some m → id < n
unfolding row home_at
row-below f from zero id m e = absurd (none≢some e)
row-below f from (suc n) zero m e = omega arith
row-below f from (suc n) (suc id) m e = omega (arith, row-below f (suc from) n id m e)

pub after-is : (h : Held) (id : ℕ) → id < length h.objects → home_at (homes_after h) id ≡ home_after h id
unfolding homes_after
after-is h id l = row-at (home_after h) 0 (length h.objects) id l ∙ ap (home_after h) (omega arith)

pub after-below : (h : Held) (id m : ℕ) → home_at (homes_after h) id ≡ Some m → id < length h.objects
unfolding homes_after
after-below h id m e = row-below (home_after h) 0 (length h.objects) id m e

-- Uncommitted ids.

in-loose_from : (homes : List (Option ℕ)) (from n id : ℕ) → home_at homes id ≡ None → from ≤ id → id < from + n → IsIn id (loose_from homes from n)
unfolding loose_from
in-loose_from homes from zero id none low high = absurd (omega (arith, low, high))
in-loose_from homes from (suc n) id none low high =
    elim (cases_Bool (nat_eq id from)) [
      | inl same ↦
          let at : id ≡ from = eqb-true id from same in
          let free : is_there (home_at homes from) ≡ false = ap (λ k. is_there (home_at homes k)) (sym at) ∙ ap is_there none in
          subst (IsIn id) (sym (else_is (is_there (home_at homes from)) (loose_from homes (suc from) n) (from ∷ loose_from homes (suc from) n) free)) (inl at)
      | inr apart ↦
          let rest = in-loose_from homes (suc from) n id none (omega (arith, low, eqb-false id from apart)) (omega (arith, high)) in
          elim (cases_Bool (is_there (home_at homes from))) [
            | inl is ↦ subst (IsIn id) (sym (then_is (is_there (home_at homes from)) (loose_from homes (suc from) n) (from ∷ loose_from homes (suc from) n) is)) rest
            | inr not ↦ subst (IsIn id) (sym (else_is (is_there (home_at homes from)) (loose_from homes (suc from) n) (from ∷ loose_from homes (suc from) n) not)) (inr rest)
          ]
    ]

pub in-loose : (h : Held) (id : ℕ) → home_at h.homes id ≡ None → id < length h.objects → IsIn id (loose h)
unfolding loose
in-loose h id none l = in-loose_from h.homes 0 (length h.objects) id none (omega arith) (omega (arith, l))

-- Created roots.

created-in : (directory : Directory) (ns : List ℕ) (id m : ℕ) → created_with directory ns id ≡ Some m → IsIn id (roots_of directory ns)
unfolding created_with roots_of
created-in directory [] id m e = absurd (none≢some e)
created-in directory (n ∷ ns) id m e =
    let roots = root_of (database_at directory n) in
    elim (cases_Bool (is_in id roots)) [
      | inl here ↦ in-front id roots (roots_of directory ns) (is_in-in id roots here)
      | inr away ↦ in-behind id roots (roots_of directory ns) (created-in directory ns id m (sym (else_is (is_in id roots) (Some n) (created_with directory ns id) away) ∙ e))
    ]

-- The laws.

pub stays : (h : Held) (id n : ℕ) → id < length h.objects → home_at h.homes id ≡ Some n → home_at (homes_after h) id ≡ Some n
unfolding home_after
stays h id n l e = after-is h id l ∙ ap (λ home. or_else home (or_else (created_with h.directory h.created id) (first_database h id))) e

pub reached-committed : (h : Held) (id : ℕ) → IsSound h → are_writable h.homes (open_for_writing h.openings) h.assigned ≡ true → id < length h.objects
    → IsNewlyReached h id → IsCommitted (homes_after h) id
unfolding home_after first_database
reached-committed h id sound writable l r =
    let f = homed h id sound writable r in
    elim (cases_Option (home_at h.homes id)) [
      | inr home ↦ (home.0, stays h id home.0 l home.1)
      | inl none ↦
          elim (cases_Option (created_with h.directory h.created id)) [
            | inr made ↦ (made.0, after-is h id l ∙ (ap (λ home. or_else home (or_else (created_with h.directory h.created id) (first_database h id))) none ∙ ap (λ home. or_else home (first_database h id)) made.1))
            | inl other ↦ (f.0, after-is h id l ∙ (ap (λ home. or_else home (or_else (created_with h.directory h.created id) (first_database h id))) none ∙ (ap (λ home. or_else home (first_database h id)) other ∙ f.1)))
          ]
    ]

pub committed-reached : (h : Held) (id : ℕ) → IsSound h → IsCommitted (homes_after h) id → IsCommitted h.homes id ⊎ IsNewlyReached h id
unfolding home_after first_database starts
committed-reached h id sound c =
    let l = after-below h id c.0 c.1 in
    elim (cases_Option (home_at h.homes id)) [
      | inr home ↦ inl (home.0, home.1)
      | inl none ↦
          let rest : or_else (created_with h.directory h.created id) (first_database h id) ≡ Some c.0
          = sym (ap (λ home. or_else home (or_else (created_with h.directory h.created id) (first_database h id))) none) ∙ (sym (after-is h id l) ∙ c.1) in
          elim (cases_Option (created_with h.directory h.created id)) [
            | inr made ↦
                inr (at_start id (in-front id (roots_of h.directory h.created) (after_places h.objects h.assigned) (created-in h.directory h.created id made.0 made.1)) (in-loose h id none l))
            | inl other ↦ inr (homed-back h id c.0 sound (sym (ap (λ home. or_else home (first_database h id)) other) ∙ rest))
          ]
    ]

pub closed : (h : Held) → IsSound h → AreThere h.objects → IsClosedButAssigned h → are_writable h.homes (open_for_writing h.openings) h.assigned ≡ true → IsClosed h.objects (homes_after h)
unfolding starts
closed h sound there before writable x y c goes =
    let l = there x y goes in
    elim (cases_Option (home_at h.homes y)) [
      | inr home ↦ (home.0, stays h y home.0 l home.1)
      | inl none ↦
          let free = in-loose h y none l in
          elim (committed-reached h x sound c) [
            | inl was ↦
                elim (before x y was goes) [
                  | inl is ↦ (is.0, stays h y is.0 l is.1)
                  | inr a ↦
                      reached-committed h y sound writable l
                      (at_start y (in-behind y (roots_of h.directory h.created) (after_places h.objects h.assigned)
                      (after_places-in h.objects h.assigned a.place y a.there (subst (λ k. IsIn y (next_in h.objects k)) (sym a.object_is) goes))) free)
                ]
            | inr r ↦ reached-committed h y sound writable l (by_step x y r goes free)
          ]
    ]
