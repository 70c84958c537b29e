-- The nodes of a table under new names: those that it had.
use Rattle.std.proofs.Common.{inl, inr, ◌⊎◌, ◌≡◌, ◌≢◌, ℕ, zero, suc, List, [], ◌∷◌, ◌++◌, map, get_or, refl, sym, ap, ◌∙◌, subst, Some}
use Rattle.std.specs.Option.{option_map}
use Rattle.std.proofs.lemmas.List.{map-append}
use Rattle.heap_meaning.specs.obj_layout.declared.reference.Reference.{Reference}
use Rattle.heap_meaning.specs.obj_layout.declared.reference.Reference.TheVariants as name
use Rattle.heap_meaning.specs.swizzle.Joint.{Shown}
use Rattle.heap_meaning.specs.swizzle.Changes.{IsKnown}
use Rattle.heap_meaning.specs.heap_places.Shapes.{slot_of}
use Rattle.heap_meaning.specs.ps_heap.Tables.{Entry, Table, without_keys, by_strings, by_ints}
use Rattle.heap_meaning.specs.ps_heap.Objects.{Heap, Keyed, object_at}
use Rattle.heap_meaning.specs.avl_trees.Trees.{Tree, leaf, node, items}
use Rattle.heap_meaning.specs.avl_trees.Standing.{Item, root_of, Stands as TreeStands}
use Rattle.heap_meaning.specs.node_rows.Keys.{Keys, by_ints as int_keys, by_texts as text_keys, KeyOf}
use Rattle.heap_meaning.specs.node_rows.Nodes.{I, HasNode, link_of}
use Rattle.heap_meaning.specs.Tables.{names_of, HasEntries, HasNodes, IsTable}
use Rattle.heap_meaning.specs.Standing.{Seen, Pairing, IsOne}
use Rattle.heap_meaning.specs.Paired.{paired, StandsRow}
use Rattle.renames.specs.Renames.{renamed, Now}
use Rattle.renames.proofs.RowLaws.{name_in-map}
use Rattle.reach_commit.specs.Telling.{Moves}
use Rattle.joint_reach.proofs.TreeLaws.{some-link}

-- to what an object refers under its new name
pub now-refs : (new : Seen) (to : Reference → Reference) (n : Reference) (it : Shown) → (w : Now new n (renamed to it)) → w.now.refs ≡ map to it.refs
now-refs new to n it w = elim w.is [ inl e ↦ ap (λ (s : Shown). s.refs) e | inr r ↦ r.refs ]

pub get-map : (to : Reference → Reference) (ns : List Reference) (k : ℕ) → to name.Nil ≡ name.Nil → get_or (map to ns) k name.Nil ≡ to (get_or ns k name.Nil)
get-map to [] k nil = sym nil
get-map to (n ∷ ns) zero nil = refl
get-map to (n ∷ ns) (suc k) nil = get-map to ns k nil

-- trees of one shape, whose nodes have new names
abbrev pub AreMoved : {K L : Type 0} → (Reference → Reference) → Tree (Item Reference K Reference) → Tree (Item Reference L Reference) → Type 0
AreMoved to leaf leaf = Unit {0}
AreMoved to (node l0 a0 r0) (node l a r) = (a.name ≡ to a0.name) × AreMoved to l0 l × AreMoved to r0 r
AreMoved to _ _ = ⊥

pub names-moved : {K L : Type 0} (to : Reference → Reference) (t0 : Tree (Item Reference K Reference)) (t : Tree (Item Reference L Reference)) → AreMoved to t0 t
    → names_of (items t) ≡ map to (names_of (items t0))
names-moved to leaf leaf moved = refl
names-moved to leaf (node l a r) moved = absurd moved
names-moved to (node l0 a0 r0) leaf moved = absurd moved
names-moved to (node l0 a0 r0) (node l a r) moved =
    map-append (λ (b : Item Reference _ Reference). b.name) (items l) (a ∷ items r)
    ∙ (ap (λ (ns : List Reference). ns ++ a.name ∷ names_of (items r)) (names-moved to l0 l moved.1)
    ∙ (ap (λ (k : Reference). map to (names_of (items l0)) ++ k ∷ names_of (items r)) moved.0
    ∙ (ap (λ (ns : List Reference). map to (names_of (items l0)) ++ to a0.name ∷ ns) (names-moved to r0 r moved.2)
    ∙ (sym (map-append to (names_of (items l0)) (a0.name ∷ names_of (items r0)))
    ∙ ap (map to) (sym (map-append (λ (b : Item Reference _ Reference). b.name) (items l0) (a0 ∷ items r0)))))))

module _ (old new : Seen) (to : Reference → Reference) (m : Moves old new to) (one : IsOne new) (nil : (it : Shown) → new name.Nil it → ⊥) where
  -- a name under which something is seen isn't nil, nor is its new one
  some : (n : Reference) → IsKnown old n → to n ≢ name.Nil
  some n k e = let w = m.forth n k.it k.is in nil w.now (subst (λ (r : Reference). new r w.now) e w.there)

  link-moved : (n : Reference) → (n ≡ name.Nil) ⊎ IsKnown old n → link_of (to n) ≡ option_map to (link_of n)
  link-moved n (inl e) = ap (λ (r : Reference). link_of (to r)) e ∙ (ap link_of m.nil ∙ sym (ap (λ (r : Reference). option_map to (link_of r)) e))
  link-moved n (inr k) =
      some-link (to n) (some n k) ∙ sym (ap (option_map to) (some-link n (λ e. some n k (ap to e ∙ m.nil))))

  -- the root of a tree that stands is nil or is seen
  root-known : (ks : Keys) (t : Tree (I ks)) (n : Reference) → link_of n ≡ root_of t → TreeStands (HasNode ks old) t → (n ≡ name.Nil) ⊎ IsKnown old n
  root-known ks leaf name.Nil e s = inl refl
  root-known ks leaf (name.Pid p) e s = absurd (cc)
  root-known ks leaf (name.Local i) e s = absurd (cc)
  root-known ks (node l a r) name.Nil e s = absurd (cc)
  root-known ks (node l a r) (name.Pid p) e s =
      let is : a.name ≡ name.Pid p = cc in inr (record { it = s.0.it; is = subst (λ (k : Reference). old k s.0.it) is s.0.there })
  root-known ks (node l a r) (name.Local i) e s =
      let is : a.name ≡ name.Local i = cc in inr (record { it = s.0.it; is = subst (λ (k : Reference). old k s.0.it) is s.0.there })

  -- a side of a node under its new name
  pub side-moved : (ks : Keys) (t0 t : Tree (I ks)) (was now : Shown) (k : ℕ) → now.refs ≡ map to was.refs → link_of (slot_of was k) ≡ root_of t0 → link_of (slot_of now k) ≡ root_of t
      → TreeStands (HasNode ks old) t0 → root_of t ≡ option_map to (root_of t0)
  side-moved ks t0 t was now k refs e f s =
      let slot : slot_of now k ≡ to (slot_of was k) = ap (λ (rs : List Reference). get_or rs k name.Nil) refs ∙ get-map to was.refs k m.nil in
      sym f ∙ (ap link_of slot ∙ (link-moved (slot_of was k) (root-known ks t0 (slot_of was k) e s) ∙ ap (option_map to) e))

  pub tree-moved : (ks : Keys) (t0 t : Tree (I ks)) → TreeStands (HasNode ks old) t0 → TreeStands (HasNode ks new) t → root_of t ≡ option_map to (root_of t0) → AreMoved to t0 t
  tree-moved ks leaf leaf s0 s e = tt
  tree-moved ks leaf (node l a r) s0 s e = absurd (cc)
  tree-moved ks (node l0 a0 r0) leaf s0 s e = absurd (cc)
  tree-moved ks (node l0 a0 r0) (node l a r) s0 s e =
      let called : a.name ≡ to a0.name = cc in
      let h0 = s0.0 in
      let h = s.0 in
      let w = m.forth a0.name h0.it h0.there in
      let same : h.it ≡ w.now = one (to a0.name) h.it w.now (subst (λ (k : Reference). new k h.it) called h.there) w.there in
      let refs : h.it.refs ≡ map to h0.it.refs = ap (λ (x : Shown). x.refs) same ∙ now-refs new to (to a0.name) h0.it w in (
        called,
        tree-moved ks l0 l s0.1 s.1 (side-moved ks l0 l h0.it h.it 0 refs h0.is.left h.is.left s0.1),
        tree-moved ks r0 r s0.2 s.2 (side-moved ks r0 r h0.it h.it 1 refs h0.is.right h.is.right s0.2),
      )

  entries-names : (ks : Keys) (pair now : Pairing) (root0 root : Reference) (es : List (Entry (KeyOf ks))) (nodes0 nodes : List Reference) → root ≡ to root0
      → HasEntries ks old pair root0 es nodes0 → HasEntries ks new now root es nodes → nodes ≡ map to nodes0
  entries-names ks pair now root0 root es nodes0 nodes e h0 h =
      let roots : root_of h.tree ≡ option_map to (root_of h0.tree) =
      sym h.root_is ∙ (ap link_of e ∙ (link-moved root0 (root-known ks h0.tree root0 h0.root_is h0.stands) ∙ ap (option_map to) h0.root_is)) in
      h.nodes_are ∙ (names-moved to h0.tree h.tree (tree-moved ks h0.tree h.tree h0.stands h.stands roots) ∙ ap (map to) (sym h0.nodes_are))

  nodes-names : (pair now : Pairing) (root0 root : Reference) (table : Table) (nodes0 nodes : List Reference) → root ≡ to root0
      → HasNodes old pair root0 table nodes0 → HasNodes new now root table nodes → nodes ≡ map to nodes0
  nodes-names pair now root0 root without_keys nodes0 nodes e h0 h = h.1 ∙ ap (map to) (sym h0.1)
  nodes-names pair now root0 root (by_strings es) nodes0 nodes e h0 h = entries-names text_keys pair now root0 root es nodes0 nodes e h0 h
  nodes-names pair now root0 root (by_ints es) nodes0 nodes e h0 h = entries-names int_keys pair now root0 root es nodes0 nodes e h0 h

  table-names : (pair now : Pairing) (n : Reference) (table : Table) (nodes0 nodes : List Reference) → IsTable old pair n table nodes0 → IsTable new now (to n) table nodes
      → nodes ≡ map to nodes0
  table-names pair now n table nodes0 nodes t0 t =
      let w = m.forth n t0.it t0.there in
      let same : t.it ≡ w.now = one (to n) t.it w.now t.there w.there in
      let refs : t.root ∷ [] ≡ to t0.root ∷ [] = sym t.refs ∙ (ap (λ (x : Shown). x.refs) same ∙ (now-refs new to (to n) t0.it w ∙ ap (map to) t0.refs)) in
      let roots : t.root ≡ to t0.root = cc in
      nodes-names pair now t0.root t.root table nodes0 nodes roots t0.has t.has

  -- the nodes of a table of the heap
  pub row-nodes : (of : Heap) (names : List Reference) (r0 : StandsRow old of names) (r : StandsRow new of (map to names)) (n : Reference) (id : ℕ) (table : Table)
      → paired names n id → object_at of id ≡ Some (Keyed table) → r.stands.tables.nodes id ≡ map to (r0.stands.tables.nodes id)
  row-nodes of names r0 r n id table p is =
      table-names (paired names) (paired (map to names)) n table (r0.stands.tables.nodes id) (r.stands.tables.nodes id) (r0.stands.tables.each n id table p is)
      (r.stands.tables.each (to n) id table (name_in-map to names n id p) is)
