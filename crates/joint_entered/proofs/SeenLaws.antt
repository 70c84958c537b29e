-- What is seen of the nodes of a tree once a key was entered: nodes that were seen keep their key texts, and others were made.
use Rattle.std.proofs.Common.{◌≡◌, ◌⊎◌, ℕ, List, [], ◌∷◌, Option, Some, None, refl, sym, ap, ◌∙◌, subst, inl, inr}
use Rattle.std.specs.List.{AllByRecursion}
use Rattle.joint_ops.specs.ps_outside.Outside.{Outside}
use Rattle.joint_ops.specs.obj_layout.Stored.{Space, Holds}
use Rattle.joint_ops.proofs.of_heap_meaning.of_obj_layout.StoredLaws.{Holds-low}
use Rattle.joint_ops.specs.obj_layout.declared.reference.Reference.{Reference}
use Rattle.joint_ops.specs.obj_layout.declared.reference.Reference.TheVariants.{Pid, Local}
use Rattle.joint_ops.specs.swizzle.Heap.{Heap, IsHeap, IsHeld, IsListed, header_at, local_of}
use Rattle.joint_ops.specs.swizzle.Joint.{Shown, name_at, shown_at, shown_words}
use Rattle.swizzle.proofs.FetchedLaws.{local-place}
use Rattle.swizzle.proofs.NameLaws.{name-none, name-pid, not_away, pid_in}
use Rattle.joint_ops.specs.heap_places.Shapes.{slot_of}
use Rattle.joint_ops.specs.heap_meaning.Tables.{names_of}
use Rattle.joint_ops.specs.World.{IsStored, seen}
use Rattle.joint_ops.proofs.SeenLaws.{seen-held, seen-is}
use Rattle.avl_trees.specs.Trees.{Tree, leaf, node, items}
use Rattle.avl_trees.specs.Standing.{Has, Item, Stands, row_of}
use Rattle.avl_trees.proofs.Standing.{all_have}
use Rattle.node_rows.specs.Keys.{Keys, Seen}
use Rattle.node_rows.specs.Nodes.{I, HasNode, IsAmong, Seat}
use Rattle.table_nodes.specs.Fetching.{IsNew}
use Rattle.table_nodes.specs.Nodes as nodes
use Rattle.table_nodes.specs.Hanging as nodes_hang
use Rattle.table_nodes.specs.Steps.{place, rows_of}
use Rattle.table_nodes.proofs.FetchLaws.{pid_named}
use Rattle.table_nodes.proofs.NodeLaws.{node_seen}
use Rattle.table_lib.specs.Entries.{SparesBut}
use Rattle.joint_held.specs.Held as held
use Rattle.joint_entered.proofs.BroughtLaws.{of-nodes}
use Rattle.joint_entered.proofs.OutcomeLaws.{StaysBeside}

-- a node of a tree that stands is seen
pub record IsKnownNode (ks : Keys) (seen : Seen) (n : Reference) : Type 0 where
  pub row : Seat ks
  pub has : HasNode ks seen n row

among-known : (ks : Keys) (seen : Seen) (is : List (I ks)) → AllByRecursion (Has (HasNode ks seen)) is → (n : Reference) → IsAmong n (names_of is) → IsKnownNode ks seen n
among-known ks seen [] all n k = absurd k
among-known ks seen (a ∷ is) all n (inl e) = record { row = all.0.row; has = subst (λ (m : Reference). HasNode ks seen m all.0.row) (sym e) all.0.there }
among-known ks seen (a ∷ is) all n (inr k) = among-known ks seen is all.1 n k

pub tree-known : (ks : Keys) (seen : Seen) (t : Tree (I ks)) → Stands (HasNode ks seen) t → (n : Reference) → IsAmong n (names_of (items t)) → IsKnownNode ks seen n
tree-known ks seen t s n k = among-known ks seen (items t) (all_have (HasNode ks seen) t s) n k

-- A tree hangs together in the words of the one and of the other.

changed-held : {K : Type 0} (here : Heap) (is : List (Item Reference K Reference)) → nodes_hang.HasChanged here is → held.HasChanged here (names_of is)
changed-held here [] c = absurd c
changed-held here (a ∷ is) (inl k) = record { at = k.at; held = k.named.node.held; among = inl k.named.name; why = k.why }
changed-held here (a ∷ is) (inr c) = let k = changed-held here is c in record { at = k.at; held = k.held; among = inr k.among; why = k.why }

module _ (ks : Keys) (here : Heap) (outside : Outside Space) (sound : IsHeap here) where
  changed-nodes : (is : List (I ks)) → AllByRecursion (Has (rows_of ks (place here outside))) is → (at : ℕ) → IsHeld here at → IsAmong (name_at here at) (names_of is) → ((header_at here at).pid ≡ 0) ⊎ IsListed at here.assigned
      → nodes_hang.HasChanged here is
  changed-nodes [] all at there k why = absurd k
  changed-nodes (a ∷ is) all at there (inl e) why =
      let is_node = node_seen ks here outside at sound there (subst (λ (n : Reference). HasNode ks (nodes.seen here outside) n all.0.row) (sym e) all.0.there) in
      inl (record { at = at; named = record { node = is_node; name = e }; why = why })
  changed-nodes (a ∷ is) all at there (inr k) why = inr (changed-nodes is all.1 at there k why)

  pub hung-nodes : (t : Tree (I ks)) → Stands (rows_of ks (place here outside)) t → held.AreHung here t → nodes_hang.AreHung here t
  hung-nodes leaf s h = tt
  hung-nodes (node l a r) s h = (
    λ c.
        let k = h.0 (changed-held here (items (node l a r)) c) in
        record { at = k.at; named = record { node = node_seen ks here outside k.at sound k.held (subst (λ (n : Reference). HasNode ks (nodes.seen here outside) n (row_of l a r)) (sym k.name) s.0); name = k.name } },
    hung-nodes l s.1 h.1,
    hung-nodes r s.2 h.2,
  )

  pub hung-held : (t : Tree (I ks)) → Stands (rows_of ks (place here outside)) t → nodes_hang.AreHung here t → held.AreHung here t
  hung-held leaf s h = tt
  hung-held (node l a r) s h = (
    λ c.
        let k = h.0 (changed-nodes (items (node l a r)) (all_have (rows_of ks (place here outside)) (node l a r) s) c.at c.held c.among c.why) in
        record { at = k.at; held = k.named.node.held; name = k.named.name },
    hung-held l s.1 h.1,
    hung-held r s.2 h.2,
  )

-- A name that nothing was seen under has a node that was made.
pub record IsFreshNode (ks : Keys) (new : Heap) (m : Reference) (it : Shown) : Type 0 where
  pub at : ℕ
  pub held : IsHeld new at
  pub name : name_at new at ≡ m
  pub made : IsNew ks new at
  pub shown : it ≡ shown_at new at

module _ (ks : Keys) (old new : Heap) (before after : Outside Space) (x : ℕ) (mine : List Reference) (was_sound : IsHeap old) (sound : IsHeap new) (single : nodes.IsSingle before) (spares : SparesBut x old new before after)
    (b : StaysBeside ks old new before after x mine) where
  -- what the vault holds under a PID was seen
  stored-seen : (pid : ℕ) (words : List ℕ) → IsStored before pid words → (it : Shown) × seen old before (Pid pid) it
  stored-seen pid words s = cases (local_of old pid) refl
    where
      cases : (o : Option ℕ) → local_of old pid ≡ o → (it : Shown) × seen old before (Pid pid) it
      cases None e = (shown_words words, inr (record { pid = pid; words = words; name_is = refl; there = s; away = e; shown_is = refl }))
      cases (Some z) e =
          let l = local-place old pid z (Holds-low before pid words s.there) e in
          (shown_at old z, subst (λ (n : Reference). seen old before n (shown_at old z)) l.name (seen-held old before z l.held))

  back-stored : (pid : ℕ) (words : List ℕ) → IsStored after pid words → IsStored before pid words
  back-stored pid words s = record { there = record { space = s.there.space; is = spares.contents.no_other s.there.space s.there.is; has = s.there.has }; header = s.header; far = s.far; clean = s.clean }

  pub held-seen : (y : ℕ) → IsHeld old y → seen old before (name_at new y) (shown_at old y)
  held-seen y was = subst (λ (n : Reference). seen old before n (shown_at old y)) (sym (spares.lasts y was).name) (seen-held old before y was)

  pub fresh-node : (m : Reference) (it : Shown) → ((was : Shown) → seen old before m was → ⊥) → seen new after m it → IsFreshNode ks new m it
  fresh-node m it unseen (inr v) =
      let k = stored-seen v.pid v.words (back-stored v.pid v.words v.there) in
      absurd (unseen k.0 (subst (λ (n : Reference). seen old before n k.0) (sym v.name_is) k.1))
  fresh-node m it unseen (inl a) = elim (b.fetched a.at a.held) [
    | inl was ↦ absurd (unseen (shown_at old a.at) (subst (λ (n : Reference). seen old before n (shown_at old a.at)) (sym a.name_is) (held-seen a.at was)))
    | inr (inl c) ↦
        let pid = (header_at new a.at).pid in
        let k = stored-seen pid c.words (of-nodes before pid c.words c.there) in
        absurd (unseen k.0 (subst (λ (n : Reference). seen old before n k.0) (sym (a.name_is ∙ name-pid (header_at new a.at) a.at c.stored)) k.1))
    | inr (inr n) ↦ record { at = a.at; held = a.held; name = sym a.name_is; made = n; shown = a.shown_is }
  ]

  -- an object that was seen has the third reference that it had
  pub text-kept : (m : Reference) (it now : Shown) → seen old before m it → seen new after m now → slot_of now 2 ≡ slot_of it 2
  unfolding pid_in
  text-kept m it now (inl a) s =
      let l = spares.lasts a.at a.held in
      let same = seen-is new after a.at m now sound l.held (l.name ∙ sym a.name_is) s in
      ap (λ (i : Shown). slot_of i 2) same ∙ (spares.texts a.at a.held ∙ ap (λ (i : Shown). slot_of i 2) (sym a.shown_is))
  text-kept m it now (inr v) (inr w) =
      let pids : w.pid ≡ v.pid = ap pid_in (sym w.name_is ∙ v.name_is) in
      let words = single.one v.pid w.words v.words (subst (λ (p : ℕ). Holds before p w.words) pids (back-stored w.pid w.words w.there).there) v.there.there in
      ap (λ (i : Shown). slot_of i 2) (w.shown_is ∙ (ap shown_words words ∙ sym v.shown_is))
  text-kept m it now (inr v) (inl a) = elim (b.fetched a.at a.held) [
    | inl was ↦ absurd (not_away old a.at v.pid was_sound was (sym v.name_is ∙ (a.name_is ∙ (spares.lasts a.at was).name)) v.away)
    | inr (inl c) ↦
        let pids : (header_at new a.at).pid ≡ v.pid = sym (pid_named new a.at) ∙ ap pid_in (sym a.name_is ∙ v.name_is) in
        let words = single.one v.pid c.words v.words (subst (λ (p : ℕ). Holds before p c.words) pids c.there.there) v.there.there in
        ap (λ (i : Shown). slot_of i 2) a.shown_is ∙ (c.text ∙ (ap (λ (ws : List ℕ). slot_of (shown_words ws) 2) words ∙ ap (λ (i : Shown). slot_of i 2) (sym v.shown_is)))
    | inr (inr n) ↦ let bad : Local a.at ≡ Pid v.pid = sym (name-none (header_at new a.at) a.at n.unstored) ∙ (sym a.name_is ∙ v.name_is) in absurd (cc)
  ]
