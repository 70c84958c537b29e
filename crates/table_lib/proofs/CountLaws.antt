-- How many entries there are after one was entered or taken out.
use Rattle.std.proofs.Common.{◌≡◌, ◌≢◌, ℕ, ◌+◌, ◌-◌, ◌^◌, ◌<◌, Bool, true, false, List, [], ◌∷◌, length, Option, Some, None, refl, arith}
use Rattle.std.specs.declared.cmp.Ordering.{Ordering}
use Rattle.std.specs.declared.cmp.Ordering.TheVariants.{Less, Equal, Greater}
use Rattle.table_nodes.specs.avl_trees.Rising.{find, enter, without, pick}
use Rattle.table_nodes.specs.Entering.{is_missing}

-- 1 where there is none
abbrev missing : {A : Type 0} → Option A → ℕ
missing None = 1
missing (Some a) = 0

abbrev present : {A : Type 0} → Option A → ℕ
present None = 0
present (Some a) = 1

module _ {A : Type 0} (probe : A → Ordering) where
  length_enter : (change : A → A) (new : A) (xs : List A) → length (enter probe change new xs) ≡ length xs + missing (find probe xs)
  length_enter change new [] = refl
  length_enter change new (x ∷ xs) =
      elim (probe x) as (λ o. length (pick o (new ∷ x ∷ xs) (change x ∷ xs) (x ∷ enter probe change new xs)) ≡ length (x ∷ xs) + missing (pick o None (Some x) (find probe xs))) [
        | Less ↦ omega arith
        | Equal ↦ omega arith
        | Greater ↦ (let e = length_enter change new xs in omega (arith, e))
      ]

  length_without : (xs : List A) → length (without probe xs) + present (find probe xs) ≡ length xs
  length_without [] = refl
  length_without (x ∷ xs) =
      elim (probe x) as (λ o. length (pick o (x ∷ xs) xs (x ∷ without probe xs)) + present (pick o None (Some x) (find probe xs)) ≡ length (x ∷ xs)) [
        | Less ↦ omega arith
        | Equal ↦ omega arith
        | Greater ↦ (let e = length_without xs in omega (arith, e))
      ]

  -- what was counted is right
  pub counted_enter : (change : A → A) (new : A) (xs : List A) (made : Bool) (count result : ℕ) → made ≡ is_missing (find probe xs) → count ≡ length xs → count < 2 ^ 64 - 1
      → (made ≡ true → count < 2 ^ 64 - 1 → result ≡ count + 1) → (made ≡ false → result ≡ count) → result ≡ length (enter probe change new xs)
  counted_enter change new xs made count result is e low more same = go (find probe xs) is (length_enter change new xs)
    where
      go : (found : Option A) → made ≡ is_missing found → length (enter probe change new xs) ≡ length xs + missing found → result ≡ length (enter probe change new xs)
      go None f l = (let r = more f low in omega (arith, r, e, l))
      go (Some x) f l = (let r = same f in omega (arith, r, e, l))

  pub counted_without : (xs : List A) (gone : Bool) (count result : ℕ) → gone ≢ is_missing (find probe xs) → count ≡ length xs
      → (gone ≡ true → result ≡ count - 1) → (gone ≡ false → result ≡ count) → result ≡ length (without probe xs)
  counted_without xs gone count result is e fewer same = go gone (find probe xs) is refl (length_without xs)
    where
      go : (b : Bool) (found : Option A) → b ≢ is_missing found → gone ≡ b → length (without probe xs) + present found ≡ length xs → result ≡ length (without probe xs)
      go true None f g l = absurd (f refl)
      go false None f g l = (let r = same g in omega (arith, r, e, l))
      go true (Some x) f g l = (let r = fewer g in omega (arith, r, e, l))
      go false (Some x) f g l = absurd (f refl)
