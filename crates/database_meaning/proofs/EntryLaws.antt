-- Entries in key order, by any total order of the keys.
use Rattle.std.proofs.Common.{inl, inr, ◌≡◌, ◌≢◌, List, [], ◌∷◌, ℕ, refl, sym, ap, ◌∙◌, subst, Option, Some, None}
use Rattle.std.specs.List.{AllByRecursion}
use Rattle.std.specs.Cmp.{IsTotalOrder}
use Rattle.std.specs.Option.{option_map}
use Rattle.std.specs.declared.cmp.Ordering.{Ordering}
use Rattle.std.specs.declared.cmp.Ordering.TheVariants.{Less, Equal, Greater}
use Rattle.std.specs.Ordering.{ordering_reverse}
use Rattle.avl_trees.specs.Rising.{pick, Parts, Fits, find, above}
use Rattle.avl_trees.proofs.Ordered.{without_rising, enter_rising}
use Rattle.ps_heap.specs.Tables.{Entry, seek, entry_of, with_entry_object, found_under, with_under, first_of, next_of, AreInKeyOrder}
use Rattle.database_meaning.specs.TableLaws.{HasEntry, IsNext}

pub all-has : {K : Type 0} (P : Entry K → Type 0) (entries : List (Entry K)) (entry : Entry K) → AllByRecursion P entries → HasEntry entry entries → P entry
all-has P [] entry a h = absurd h
all-has P (e ∷ es) entry a (inl same) = subst P (sym same) a.0
all-has P (e ∷ es) entry a (inr h) = all-has P es entry a.1 h

module _ {K : Type 0} (order : K → K → Ordering) (o : IsTotalOrder order) where
  abbrev below : Entry K → Entry K → Type 0
  below a b = order a.key b.key ≡ Less

  same : (k : K) → order k k ≡ Equal
  same k = go (order k k) refl
    where
      go : (r : Ordering) → order k k ≡ r → r ≡ Equal
      go Less e = let turned : order k k ≡ Greater = o.antisymm k k ∙ ap ordering_reverse e in cc
      go Equal e = refl
      go Greater e = let turned : order k k ≡ Less = o.antisymm k k ∙ ap ordering_reverse e in cc

  turned : (a b : K) (r : Ordering) → order a b ≡ r → order b a ≡ ordering_reverse r
  turned a b r e = o.antisymm b a ∙ ap ordering_reverse e

  parts : (key : K) → Parts below (seek order key)
  parts key a b h p = go (order key a.key) refl
    where
      go : (r : Ordering) → order key a.key ≡ r → order key b.key ≡ Less
      go Less e = o.trans key a.key b.key e h
      go Equal e = o.congr key a.key b.key e ∙ h
      go Greater e = absurd (p e)

  fits : (key : K) (object : ℕ) → Fits below (seek order key) (with_entry_object object) (entry_of key object)
  fits key object = record {
    under = λ a e. e;
    over = λ a e. turned key a.key Greater e;
    up = λ a b e h. h;
    down = λ a b e h. h;
  }

  pub with_under_rising : (key : K) (object : Option ℕ) (entries : List (Entry K)) → AreInKeyOrder order entries → AreInKeyOrder order (with_under order key object entries)
  with_under_rising key None entries h = without_rising below (seek order key) (parts key) entries h
  with_under_rising key (Some object) entries h = enter_rising below (seek order key) (parts key) (with_entry_object object) (entry_of key object) (fits key object) entries h

  none_above : (key : K) (entries : List (Entry K)) → AllByRecursion (λ e. order key e.key ≡ Less) entries → find (seek order key) entries ≡ None
  none_above key [] a = refl
  none_above key (e ∷ es) a = rw a.0 refl

  all_less : (key : K) (e : Entry K) (es : List (Entry K)) → order key e.key ≢ Greater → AllByRecursion (below e) es → AllByRecursion (λ x. order key x.key ≡ Less) es
  all_less key e [] p a = tt
  all_less key e (x ∷ es) p a = (parts key e x a.0 p, all_less key e es p a.1)

  pub found_entered : (key : K) (object : ℕ) (entries : List (Entry K)) → found_under order key (with_under order key (Some object) entries) ≡ Some object
  found_entered key object [] = rw (same key) refl
  found_entered key object (e ∷ es) =
      (elim (order key e.key) as (λ r. order key e.key ≡ r
      → found_under order key (pick r (entry_of key object ∷ e ∷ es) (with_entry_object object e ∷ es) (e ∷ with_under order key (Some object) es)) ≡ Some object) [
        | Less ↦ λ q. rw (same key) refl
        | Equal ↦ λ q. rw q refl
        | Greater ↦ λ q. rw q (found_entered key object es)
      ]) refl

  pub found_removed : (key : K) (entries : List (Entry K)) → AreInKeyOrder order entries → found_under order key (with_under order key None entries) ≡ None
  found_removed key [] h = refl
  found_removed key (e ∷ es) h =
      (elim (order key e.key) as (λ r. order key e.key ≡ r → found_under order key (pick r (e ∷ es) es (e ∷ with_under order key None es)) ≡ None) [
        | Less ↦ λ q. rw q refl
        | Equal ↦ λ q. ap (option_map (λ x. x.object)) (none_above key es (all_less key e es (λ f. cc) h.0))
        | Greater ↦ λ q. rw q (found_removed key es h.1)
      ]) refl

  -- another key
  pub other_entered : (key other : K) (object : ℕ) (entries : List (Entry K)) → AreInKeyOrder order entries → order other key ≢ Equal
      → found_under order other (with_under order key (Some object) entries) ≡ found_under order other entries
  other_entered key other object [] h apart = new (order other key) refl
    where
      new : (r : Ordering) → order other key ≡ r → option_map (λ x. x.object) (pick r None (Some (entry_of key object)) None) ≡ None
      new Less q = refl
      new Equal q = absurd (apart q)
      new Greater q = refl
  other_entered key other object (e ∷ es) h apart =
      (elim (order key e.key) as (λ r. order key e.key ≡ r
      → found_under order other (pick r (entry_of key object ∷ e ∷ es) (with_entry_object object e ∷ es) (e ∷ with_under order key (Some object) es)) ≡ found_under order other (e ∷ es)) [
        | Less ↦ λ q. before q
        | Equal ↦ λ q. here q
        | Greater ↦ λ q. rest (other_entered key other object es h.1 apart)
      ]) refl
    where
      before : order key e.key ≡ Less → found_under order other (entry_of key object ∷ e ∷ es) ≡ found_under order other (e ∷ es)
      before q =
          (elim (order other key) as (λ r. order other key ≡ r
          → option_map (λ x. x.object) (pick r None (Some (entry_of key object)) (find (seek order other) (e ∷ es))) ≡ found_under order other (e ∷ es)) [
            | Less ↦ λ p. sym (ap (option_map (λ x. x.object)) (none_above other (e ∷ es) (o.trans other key e.key p q, all_less other e es (λ f. let l = o.trans other key e.key p q in cc) h.0)))
            | Equal ↦ λ p. absurd (apart p)
            | Greater ↦ λ p. refl
          ]) refl

      here : order key e.key ≡ Equal → found_under order other (with_entry_object object e ∷ es) ≡ found_under order other (e ∷ es)
      here q =
          (elim (order other e.key) as (λ r. order other e.key ≡ r
          → option_map (λ x. x.object) (pick r None (Some (with_entry_object object e)) (find (seek order other) es)) ≡ option_map (λ x. x.object) (pick r None (Some e) (find (seek order other) es))) [
            | Less ↦ λ p. refl
            | Equal ↦ λ p. absurd (apart (turned key other Equal (o.congr key e.key other q ∙ turned other e.key Equal p)))
            | Greater ↦ λ p. refl
          ]) refl

      rest : found_under order other (with_under order key (Some object) es) ≡ found_under order other es → found_under order other (e ∷ with_under order key (Some object) es) ≡ found_under order other (e ∷ es)
      rest there =
          (elim (order other e.key) as (λ r. order other e.key ≡ r
          → option_map (λ x. x.object) (pick r None (Some e) (find (seek order other) (with_under order key (Some object) es))) ≡ option_map (λ x. x.object) (pick r None (Some e) (find (seek order other) es))) [
            | Less ↦ λ p. refl
            | Equal ↦ λ p. refl
            | Greater ↦ λ p. there
          ]) refl

  pub other_removed : (key other : K) (entries : List (Entry K)) → AreInKeyOrder order entries → order other key ≢ Equal
      → found_under order other (with_under order key None entries) ≡ found_under order other entries
  other_removed key other [] h apart = refl
  other_removed key other (e ∷ es) h apart =
      (elim (order key e.key) as (λ r. order key e.key ≡ r
      → found_under order other (pick r (e ∷ es) es (e ∷ with_under order key None es)) ≡ found_under order other (e ∷ es)) [
        | Less ↦ λ q. refl
        | Equal ↦ λ q. here q
        | Greater ↦ λ q. rest (other_removed key other es h.1 apart)
      ]) refl
    where
      here : order key e.key ≡ Equal → found_under order other es ≡ found_under order other (e ∷ es)
      here q =
          (elim (order other e.key) as (λ r. order other e.key ≡ r → found_under order other es ≡ option_map (λ x. x.object) (pick r None (Some e) (find (seek order other) es))) [
            | Less ↦ λ p. ap (option_map (λ x. x.object)) (none_above other es (all_less other e es (λ f. cc) h.0))
            | Equal ↦ λ p. absurd (apart (turned key other Equal (o.congr key e.key other q ∙ turned other e.key Equal p)))
            | Greater ↦ λ p. refl
          ]) refl

      rest : found_under order other (with_under order key None es) ≡ found_under order other es → found_under order other (e ∷ with_under order key None es) ≡ found_under order other (e ∷ es)
      rest there =
          (elim (order other e.key) as (λ r. order other e.key ≡ r
          → option_map (λ x. x.object) (pick r None (Some e) (find (seek order other) (with_under order key None es))) ≡ option_map (λ x. x.object) (pick r None (Some e) (find (seek order other) es))) [
            | Less ↦ λ p. refl
            | Equal ↦ λ p. refl
            | Greater ↦ λ p. there
          ]) refl

  -- The next entry.

  not_less : (e : Entry K) (es : List (Entry K)) (entry : Entry K) → AllByRecursion (below e) es → HasEntry entry (e ∷ es) → order entry.key e.key ≢ Less
  not_less e es entry a (inl is) l = let self : order e.key e.key ≡ Less = subst (λ x. order x.key e.key ≡ Less) is l in absurd (cc (same e.key))
  not_less e es entry a (inr h) l = let up = turned e.key entry.key Less (all-has (below e) es entry a h) in absurd (cc)

  pub first_is_next : (entries : List (Entry K)) → AreInKeyOrder order entries → IsNext order None entries (first_of entries)
  first_is_next [] h = λ entry has above. absurd has
  first_is_next (e ∷ es) h = (inl refl, tt, λ entry has up. not_less e es entry h.0 has)

  pub above_is_next : (last : K) (entries : List (Entry K)) → AreInKeyOrder order entries → IsNext order (Some last) entries (above (seek order last) entries)
  above_is_next last [] h = λ entry has up. absurd has
  above_is_next last (e ∷ es) h =
      (elim (order last e.key) as (λ r. order last e.key ≡ r → IsNext order (Some last) (e ∷ es) (pick r (Some e) (above (seek order last) es) (above (seek order last) es))) [
        | Less ↦ λ q. (inl refl, q, λ entry has up. not_less e es entry h.0 has)
        | Equal ↦ λ q. behind (λ up. cc) (above (seek order last) es) (above_is_next last es h.1)
        | Greater ↦ λ q. behind (λ up. cc) (above (seek order last) es) (above_is_next last es h.1)
      ]) refl
    where
      behind : (order last e.key ≡ Less → ⊥) → (found : Option (Entry K)) → IsNext order (Some last) es found → IsNext order (Some last) (e ∷ es) found
      behind bad None n = λ entry has up. elim has [ inl is ↦ bad (subst (λ x. order last x.key ≡ Less) is up) | inr there ↦ n entry there up ]
      behind bad (Some found) n = (inr n.0, n.1, λ entry has up. elim has [ inl is ↦ absurd (bad (subst (λ x. order last x.key ≡ Less) is up)) | inr there ↦ n.2 entry there up ])

  pub next_is_least : (last : Option K) (entries : List (Entry K)) → AreInKeyOrder order entries → IsNext order last entries (next_of order last entries)
  next_is_least None entries h = first_is_next entries h
  next_is_least (Some last) entries h = above_is_next last entries h
