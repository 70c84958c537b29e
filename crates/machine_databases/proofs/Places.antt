-- There is place for one more database that is open for writing, where the open ones are those of a directory of at most 256.
use Rattle.std.proofs.Common.{◌≡◌, ℕ, suc, ◌<◌, ◌≤◌, Bool, true, false, List, [], ◌∷◌, length, Option, Some, None, inl, inr, refl, sym, ap, ◌∙◌, subst, arith}
use Rattle.std.specs.Prelude.{◌||◌, nat_eq}
use Rattle.std.specs.List.{AllByRecursion, IsDistinct, list_any}
use Rattle.std.proofs.lemmas.Bool.{cases_Bool, eqb-true, ne_eqb, true≢false}
use Rattle.std.proofs.lemmas.Map.Steps.{length-le_from_distinct_below}
use Rattle.reaching.specs.Reaching.{IsIn, is_in}
use Rattle.reaching.proofs.Lists.{then_is, else_is, in-is_in}
use Rattle.machine_core.specs.ps_outside.Outside.{Outside}
use Rattle.machine_core.specs.obj_layout.Stored.{Space}
use Rattle.machine_core.specs.obj_layout.declared.reference.Reference.{Reference}
use Rattle.machine_core.specs.swizzle.Heap as area
use Rattle.machine_core.specs.ps_heap.ps_base.Limits.{most_databases}
use Rattle.machine_core.specs.ps_heap.Databases.{Mode, Reading, Writing, Opening, with_writing, numbers_for_writing, each_once, open_for_writing}
use Rattle.machine_core.specs.ps_heap.Held.{Held}
use Rattle.machine_core.specs.joint_ops.World.{seen}
use Rattle.machine_core.specs.joint_ops.heap_meaning.Paired.{paired}
use Rattle.machine_core.specs.joint_held.db_dir.Directories.{IsDirectoryAt}
use Rattle.machine_core.specs.joint_held.reach_commit.commit_walk.declared.homes.Source.{Source}
use Rattle.machine_core.specs.joint_held.Held.{HoldsRun}
use Rattle.database_steps.specs.Databases.{IsNumber}
use Rattle.machine_databases.specs.inside.Giving.{HasPlace, numbers_of}

-- Numbers with no two equal.

apart-from : (x : ℕ) (ys : List ℕ) → (IsIn x ys → ⊥) → AllByRecursion (λ y. nat_eq x y ≡ false) ys
apart-from x [] none = tt
apart-from x (y ∷ ys) none = (ne_eqb x y (λ e. none (inl e)), apart-from x ys (λ l. none (inr l)))

once-apart : (x : ℕ) (before ns : List ℕ) → IsIn x before → IsIn x (each_once before ns) → ⊥
unfolding each_once
once-apart x before [] l is = elim is [ ]
once-apart x before (n ∷ ns) l is =
    elim (cases_Bool (is_in n before)) [
      | inl there ↦ once-apart x before ns l (subst (IsIn x) (then_is (is_in n before) (each_once before ns) (n ∷ each_once (n ∷ before) ns) there) is)
      | inr away ↦
          elim (subst (IsIn x) (else_is (is_in n before) (each_once before ns) (n ∷ each_once (n ∷ before) ns) away) is) [
            | inl e ↦ true≢false (sym (in-is_in n before (subst (λ (k : ℕ). IsIn k before) e l)) ∙ away)
            | inr later ↦ once-apart x (n ∷ before) ns (inr l) later
          ]
    ]

once-distinct : (before ns : List ℕ) → IsDistinct nat_eq (each_once before ns)
unfolding each_once IsDistinct
once-distinct before [] = tt
once-distinct before (n ∷ ns) =
    elim (cases_Bool (is_in n before)) [
      | inl there ↦
          subst (IsDistinct nat_eq) (sym (then_is (is_in n before) (each_once before ns) (n ∷ each_once (n ∷ before) ns) there)) (once-distinct before ns)
      | inr away ↦
          let both : IsDistinct nat_eq (n ∷ each_once (n ∷ before) ns) =
          (apart-from n (each_once (n ∷ before) ns) (λ l. once-apart n (n ∷ before) ns (inl refl) l), once-distinct (n ∷ before) ns) in
          subst (IsDistinct nat_eq) (sym (else_is (is_in n before) (each_once before ns) (n ∷ each_once (n ∷ before) ns) away)) both
    ]

once-among : (x : ℕ) (before ns : List ℕ) → IsIn x (each_once before ns) → IsIn x ns
unfolding each_once
once-among x before [] is = is
once-among x before (n ∷ ns) is =
    elim (cases_Bool (is_in n before)) [
      | inl there ↦ inr (once-among x before ns (subst (IsIn x) (then_is (is_in n before) (each_once before ns) (n ∷ each_once (n ∷ before) ns) there) is))
      | inr away ↦
          elim (subst (IsIn x) (else_is (is_in n before) (each_once before ns) (n ∷ each_once (n ∷ before) ns) away) is) [
            | inl e ↦ inl e
            | inr later ↦ inr (once-among x (n ∷ before) ns later)
          ]
    ]

-- The numbers of open databases are numbers of the directory.

number-in : (x count number : ℕ) (mode : Mode) (rest : List ℕ) → IsNumber count number → (IsIn x rest → IsNumber count x) → IsIn x (with_writing mode number rest)
    → IsNumber count x
number-in x count number Reading rest is h l = h l
number-in x count number Writing rest is h (inl e) = subst (IsNumber count) (sym e) is
number-in x count number Writing rest is h (inr l) = h l

numbers-in : (x count : ℕ) (openings : List Opening) → AllByRecursion (λ opening. IsNumber count opening.number) openings → IsIn x (numbers_for_writing openings)
    → IsNumber count x
numbers-in x count [] named l = elim l [ ]
numbers-in x count (opening ∷ more) named l =
    number-in x count opening.number opening.mode (numbers_for_writing more) named.0 (λ later. numbers-in x count more named.1 later) l

any-among : (q : ℕ) (xs : List ℕ) → list_any (nat_eq q) xs ≡ true → IsIn q xs
any-among q [] e = absurd (true≢false (sym e))
any-among q (x ∷ xs) e =
    elim (cases_Bool (nat_eq q x)) [
      | inl same ↦ inl (eqb-true q x same)
      | inr other ↦ inr (any-among q xs (sym (ap (λ (b : Bool). b || list_any (nat_eq q) xs) other) ∙ e))
    ]

-- Numbers from 1 to a count, no two equal, of which one is missing, are fewer.
fewer : (count number : ℕ) (ns : List ℕ) → IsDistinct nat_eq ns → ((x : ℕ) → IsIn x ns → IsNumber count x) → IsNumber count number → (IsIn number ns → ⊥)
    → length ns < count
unfolding IsDistinct
fewer count number ns distinct are is none =
    let all : List ℕ = 0 ∷ (number ∷ ns) in
    let no-zero : IsIn 0 (number ∷ ns) → ⊥ =
    λ l. elim l [ inl e ↦ (let first = is.first in omega (arith, e, first)) | inr later ↦ (let first = (are 0 later).first in omega (arith, first)) ] in
    let long = length-le_from_distinct_below all (suc count) (apart-from 0 (number ∷ ns) no-zero, (apart-from number ns none, distinct))
    (λ q e. below q (any-among q all e)) in
    omega (arith, long)
  where
    below : (q : ℕ) → IsIn q (0 ∷ (number ∷ ns)) → q < suc count
    below q (inl e) = omega (arith, e)
    below q (inr (inl e)) = let last = is.last in omega (arith, e, last)
    below q (inr (inr l)) = let last = (are q l).last in omega (arith, last)

length-numbers : (writing : List Source) → length (numbers_of writing) ≡ length writing
length-numbers [] = refl
length-numbers (s ∷ ss) = ap suc (length-numbers ss)

module _ (here : area.Heap) (outside : Outside Space) (names : List Reference) (writing : List Source) (directory : Option ℕ) (h : Held)
    (run : HoldsRun here outside names writing directory h) (asked : h.asked ≡ true) where
  few-of : (at : Option ℕ) → IsDirectoryAt here (seen here outside) (paired names) at h.directory → length h.directory ≤ most_databases
  few-of None e = let none : length h.directory ≡ 0 = ap length e in omega (arith, none)
  few-of (Some at) d = d.few

  -- a directory has at most 256 databases
  pub few : length h.directory ≤ most_databases
  few = few-of directory (run.asked asked)

  -- there is place for the database of a number up to 256 that isn't open for writing, where all open ones have numbers up to that count
  pub place-for : (count number : ℕ) → count ≤ most_databases → AllByRecursion (λ opening. IsNumber count opening.number) h.openings → IsNumber count number
      → (IsIn number (open_for_writing h.openings) → ⊥) → HasPlace writing
  place-for count number low named is none =
      let less = fewer count number (open_for_writing h.openings) (once-distinct [] (numbers_for_writing h.openings))
      (λ x l. numbers-in x count h.openings named (once-among x [] (numbers_for_writing h.openings) l)) is none in
      let long : length writing ≡ length (open_for_writing h.openings) = sym (length-numbers writing) ∙ ap length run.sources.numbers in
      omega (arith, less, long, low)
