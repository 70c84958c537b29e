-- The pairs of a table's tree and the entries of a table, as they are searched and changed.
use Rattle.std.proofs.Common.{◌≡◌, ◌⊎◌, ℕ, List, [], ◌∷◌, Option, Some, None, refl, sym, subst, inl, inr}
use Rattle.std.specs.declared.cmp.Ordering.{Ordering}
use Rattle.std.specs.declared.cmp.Ordering.TheVariants.{Less, Equal, Greater}
use Rattle.joint_ops.specs.obj_layout.declared.reference.Reference.{Reference}
use Rattle.joint_ops.specs.ps_heap.Values.{Pointer}
use Rattle.joint_ops.specs.ps_heap.Tables.{Entry, entry_of, first_of, with_entry_object}
use Rattle.joint_ops.specs.heap_meaning.Standing.{Pairing, Seen, StandsFor}
use Rattle.joint_ops.specs.heap_meaning.Tables.{ArePairs, names_of}
use Rattle.table_lib.specs.table_nodes.avl_trees.Rising.{above, enter, find, pick, without}
use Rattle.table_lib.specs.table_nodes.avl_trees.Standing.{IsApart, Item, fresh_item, put}
use Rattle.table_lib.specs.table_nodes.node_rows.Nodes.{IsAmong}

module _ {K : Type 0} (seen : Seen) (pair : Pairing) where
  -- an item and an entry, or none of both
  abbrev pub IsSame : Option (Item Reference K Reference) → Option (Entry K) → Type 0
  IsSame None None = Unit {0}
  IsSame (Some a) (Some e) = (a.entry.key ≡ e.key) × StandsFor seen pair a.entry.value (Pointer e.object)
  IsSame _ _ = ⊥

  -- a key stands to both alike
  abbrev pub Agree : (Item Reference K Reference → Ordering) → (Entry K → Ordering) → Type 0
  Agree p q = (a : Item Reference K Reference) (e : Entry K) → a.entry.key ≡ e.key → p a ≡ q e

  module _ (p : Item Reference K Reference → Ordering) (q : Entry K → Ordering) (agree : Agree p q) where
    pub find-pairs : (is : List (Item Reference K Reference)) (es : List (Entry K)) → ArePairs seen pair is es → IsSame (find p is) (find q es)
    find-pairs [] [] h = tt
    find-pairs (a ∷ is) (e ∷ es) h =
        subst (λ (o : Ordering). IsSame (pick o None (Some a) (find p is)) (find q (e ∷ es))) (sym (agree a e h.0))
        (elim (q e) as (λ o. IsSame (pick o None (Some a) (find p is)) (pick o None (Some e) (find q es))) [
          | Less ↦ tt
          | Equal ↦
              (h.0, h.1)
          | Greater ↦ find-pairs is es h.2
        ])
    find-pairs [] (e ∷ es) h = absurd h
    find-pairs (a ∷ is) [] h = absurd h

    pub above-pairs : (is : List (Item Reference K Reference)) (es : List (Entry K)) → ArePairs seen pair is es → IsSame (above p is) (above q es)
    above-pairs [] [] h = tt
    above-pairs (a ∷ is) (e ∷ es) h =
        subst (λ (o : Ordering). IsSame (pick o (Some a) (above p is) (above p is)) (above q (e ∷ es))) (sym (agree a e h.0))
        (elim (q e) as (λ o. IsSame (pick o (Some a) (above p is) (above p is)) (pick o (Some e) (above q es) (above q es))) [
          | Less ↦
              (h.0, h.1)
          | Equal ↦ above-pairs is es h.2
          | Greater ↦ above-pairs is es h.2
        ])
    above-pairs [] (e ∷ es) h = absurd h
    above-pairs (a ∷ is) [] h = absurd h

    pub enter-pairs : (fresh : Reference) (key : K) (value : Reference) (object : ℕ) → StandsFor seen pair value (Pointer object)
        → (is : List (Item Reference K Reference)) (es : List (Entry K)) → ArePairs seen pair is es
        → ArePairs seen pair (enter p (put value) (fresh_item fresh key value) is) (enter q (with_entry_object object) (entry_of key object) es)
    enter-pairs fresh key value object s [] [] h = (refl, s, tt)
    enter-pairs fresh key value object s (a ∷ is) (e ∷ es) h =
        let new = fresh_item fresh key value in
        let now = entry_of key object in
        subst (λ (o : Ordering). ArePairs seen pair (pick o (new ∷ a ∷ is) (put value a ∷ is) (a ∷ enter p (put value) new is))
        (enter q (with_entry_object object) now (e ∷ es))) (sym (agree a e h.0))
        (elim (q e) as
        (λ o. ArePairs seen pair (pick o (new ∷ a ∷ is) (put value a ∷ is) (a ∷ enter p (put value) new is))
        (pick o (now ∷ e ∷ es) (with_entry_object object e ∷ es) (e ∷ enter q (with_entry_object object) now es))) [
          | Less ↦ (refl, s, h)
          | Equal ↦ (h.0, s, h.2)
          | Greater ↦ (h.0, h.1, enter-pairs fresh key value object s is es h.2)
        ])
    enter-pairs fresh key value object s [] (e ∷ es) h = absurd h
    enter-pairs fresh key value object s (a ∷ is) [] h = absurd h

    pub without-pairs : (is : List (Item Reference K Reference)) (es : List (Entry K)) → ArePairs seen pair is es → ArePairs seen pair (without p is)
        (without q es)
    without-pairs [] [] h = tt
    without-pairs (a ∷ is) (e ∷ es) h =
        subst (λ (o : Ordering). ArePairs seen pair (pick o (a ∷ is) is (a ∷ without p is)) (without q (e ∷ es))) (sym (agree a e h.0))
        (elim (q e) as (λ o. ArePairs seen pair (pick o (a ∷ is) is (a ∷ without p is)) (pick o (e ∷ es) es (e ∷ without q es))) [
          | Less ↦ h
          | Equal ↦ h.2
          | Greater ↦ (h.0, h.1, without-pairs is es h.2)
        ])
    without-pairs [] (e ∷ es) h = absurd h
    without-pairs (a ∷ is) [] h = absurd h

  -- the first of all
  pub first-pairs : (is : List (Item Reference K Reference)) (es : List (Entry K)) → ArePairs seen pair is es → IsSame (above (λ a. Less) is)
      (first_of es)
  first-pairs [] [] h = tt
  first-pairs (a ∷ is) (e ∷ es) h = (h.0, h.1)
  first-pairs [] (e ∷ es) h = absurd h
  first-pairs (a ∷ is) [] h = absurd h

-- The names of the nodes.

pub apart-names : {K : Type 0} (n : Reference) (is : List (Item Reference K Reference)) → (IsAmong n (names_of is) → ⊥) → IsApart n is
apart-names n [] f = tt
apart-names n (a ∷ is) f = ((λ e. f (inl (sym e))), apart-names n is (λ m. f (inr m)))

pub enter-names : {K : Type 0} (p : Item Reference K Reference → Ordering) (fresh : Reference) (key : K) (value m : Reference)
    (is : List (Item Reference K Reference))
    → IsAmong m (names_of (enter p (put value) (fresh_item fresh key value) is)) → IsAmong m (names_of is) ⊎ (m ≡ fresh)
enter-names p fresh key value m [] a = elim a [ inl e ↦ inr e | inr b ↦ absurd b ]
enter-names p fresh key value m (i ∷ is) among =
    let new = fresh_item fresh key value in
    (elim (p i) as (λ o. IsAmong m (names_of (pick o (new ∷ i ∷ is) (put value i ∷ is) (i ∷ enter p (put value) new is))) → IsAmong m
    (names_of (i ∷ is)) ⊎ (m ≡ fresh)) [
      | Less ↦ λ a. elim a [ inl e ↦ inr e | inr b ↦ inl b ]
      | Equal ↦ λ a. inl a
      | Greater ↦ λ a. elim a [ inl e ↦ inl (inl e) | inr b ↦ elim (enter-names p fresh key value m is b) [ inl c ↦ inl (inr c) | inr e ↦ inr e ] ]
    ]) among

pub without-names : {K : Type 0} (p : Item Reference K Reference → Ordering) (m : Reference) (is : List (Item Reference K Reference))
    → IsAmong m (names_of (without p is)) → IsAmong m (names_of is)
without-names p m [] a = a
without-names p m (i ∷ is) among =
    (elim (p i) as (λ o. IsAmong m (names_of (pick o (i ∷ is) is (i ∷ without p is))) → IsAmong m (names_of (i ∷ is))) [
      | Less ↦ λ a. a
      | Equal ↦ λ a. inr a
      | Greater ↦ λ a. elim a [ inl e ↦ inl e | inr b ↦ inr (without-names p m is b) ]
    ]) among
