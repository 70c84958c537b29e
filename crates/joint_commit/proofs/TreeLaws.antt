-- The trees of tables after a commit.
use Rattle.std.proofs.Common.{inl, inr, ◌≡◌, ℕ, ◌≤◌, List, [], ◌∷◌, map, get_or, refl, sym, ap, ◌∙◌, subst, arith, Option, Some}
use Rattle.swizzle.specs.obj_layout.ps_outside.Outside.{Outside}
use Rattle.swizzle.specs.obj_layout.declared.reference.Reference.{Reference}
use Rattle.swizzle.specs.obj_layout.declared.reference.Reference.TheVariants.{Nil, Pid}
use Rattle.swizzle.specs.obj_layout.Stored.{Space}
use Rattle.swizzle.specs.Heap.{Heap, IsHeld, IsListed, header_at}
use Rattle.swizzle.specs.Joint.{Shown, name_at, shown_at}
use Rattle.swizzle.specs.Changes.{IsKnown}
use Rattle.swizzle.proofs.NameLaws.{name-pid}
use Rattle.commit_walk.specs.declared.homes.Source.{Source}
use Rattle.commit_walk.proofs.AllLaws.{listed-or}
use Rattle.heap_meaning.specs.heap_places.Shapes.{slot_of}
use Rattle.heap_meaning.specs.ps_heap.Tables as table
use Rattle.heap_meaning.specs.ps_heap.Tables.{Table, without_keys, by_strings}
use Rattle.heap_meaning.specs.ps_heap.Objects.{Keyed, object_at}
use Rattle.heap_meaning.specs.ps_heap.Held.{Held}
use Rattle.heap_meaning.specs.avl_trees.Trees.{Tree, leaf, node, items}
use Rattle.heap_meaning.specs.avl_trees.Standing.{Item, root_of, Stands as TreeStands}
use Rattle.heap_meaning.specs.node_rows.Keys.{Keys, by_ints, by_texts}
use Rattle.heap_meaning.specs.node_rows.Nodes.{I, IsAmong, HasNode, link_of}
use Rattle.heap_meaning.specs.Tables.{names_of, HasNodes}
use Rattle.heap_meaning.specs.Standing.{Seen, Pairing}
use Rattle.heap_meaning.specs.Paired.{paired}
use Rattle.heap_meaning.proofs.TableLaws.{among-front, among-back}
use Rattle.renames.proofs.TableLaws.{among-moved}
use Rattle.joint_ops.specs.World.{seen}
use Rattle.joint_ops.proofs.SeenLaws.{nil-unseen, seen-one}
use Rattle.reach_commit.proofs.ReadyLaws.{none-or-some}
use Rattle.joint_held.specs.Held.{HasChanged, AreHung, HaveNoTexts, IsTree, IsKeyed, IsNodeOf}
use Rattle.joint_reach.specs.Meets.{IsToBeStored}
use Rattle.joint_commit.proofs.StoredLaws.{Setting, fresh-pid, node-pid, to-be-stored, pid-named, named-before}
use Rattle.joint_commit.proofs.NodeLaws.{AreMoved, names-moved, tree-moved, side-moved, now-refs, get-map as slot-map}

-- the tree of a table
record HasTree (ks : Keys) (seen : Seen) (root : Reference) (nodes : List Reference) : Type 0 where
  tree : Tree (I ks)
  root_is : link_of root ≡ root_of tree
  stands : TreeStands (HasNode ks seen) tree
  nodes_are : nodes ≡ names_of (items tree)

tree-in : (ks : Keys) (seen : Seen) (pair : Pairing) (root : Reference) (of : Table) (nodes : List Reference) → IsKeyed ks of → HasNodes seen pair root of nodes → HasTree ks seen root nodes
tree-in by_texts seen pair root (by_strings es) nodes k h = record { tree = h.tree; root_is = h.root_is; stands = h.stands; nodes_are = h.nodes_are }
tree-in by_ints seen pair root (table.by_ints es) nodes k h = record { tree = h.tree; root_is = h.root_is; stands = h.stands; nodes_are = h.nodes_are }
tree-in by_texts seen pair root (table.by_ints es) nodes k h = absurd k
tree-in by_texts seen pair root without_keys nodes k h = absurd k
tree-in by_ints seen pair root (by_strings es) nodes k h = absurd k
tree-in by_ints seen pair root without_keys nodes k h = absurd k

some-one : {a b : Reference} → Some a ≡ Some b → a ≡ b
some-one e = cc

module _ (old new : Heap) (before after : Outside Space) (names : List Reference) (writing : List Source) (directory : Option ℕ) (h : Held)
    (s : Setting old new before after names writing directory h)
    (unassigned : new.assigned ≡ []) where
  abbrev ρ : Reference → Reference
  ρ = (s.tells.moved s.holds.current.told).to

  -- an object of the area is seen under its name
  known-here : (x : ℕ) → IsHeld old x → IsKnown (seen old before) (name_at old x)
  known-here x held = record { it = shown_at old x; is = inl (record { at = x; held = held; name_is = refl; shown_is = refl }) }

  -- the name before of an object of the area that has one of these names now
  name-back : (x : ℕ) (m : Reference) → IsHeld new x → IsKnown (seen old before) m → name_at new x ≡ ρ m → name_at old x ≡ m
  name-back x m held known e =
      let moved = s.tells.moved s.holds.current.told in
      moved.moves.one (name_at old x) m (known-here x (s.commits.remains.back x held)) known (sym (moved.index x) ∙ e)

  -- an object of the area that has no PID afterwards had none
  record Loose (x : ℕ) (list : List Reference) : Type 0 where
    held : IsHeld old x
    among : IsAmong (name_at old x) list
    none : (header_at old x).pid ≡ 0
    still : (header_at new x).pid ≡ 0

  changed-back : (list0 list : List Reference) → list ≡ map ρ list0 → ((m : Reference) → IsAmong m list0 → IsKnown (seen old before) m) → (c : HasChanged new list) → Loose c.at list0
  changed-back list0 list e known c =
      let m = among-moved ρ (name_at new c.at) list0 (subst (IsAmong (name_at new c.at)) e c.among) in
      let still : (header_at new c.at).pid ≡ 0 = elim c.why [ inl none ↦ none | inr l ↦ absurd (subst (IsListed c.at) unassigned l) ] in
      record {
        held = s.commits.remains.back c.at c.held;
        among = subst (λ (n : Reference). IsAmong n list0) (sym (name-back c.at m.before c.held (known m.before m.is) m.now)) m.is;
        none = elim (none-or-some (header_at old c.at).pid) [ inl none ↦ none | inr some ↦ let same = s.commits.remains.pids c.at some in absurd (omega (arith, same, some, still)) ];
        still = still;
      }

  hung-moved : {K L : Type 0} (t0 : Tree (Item Reference K Reference)) (t : Tree (Item Reference L Reference)) → AreMoved ρ t0 t
      → ((m : Reference) → IsAmong m (names_of (items t0)) → IsKnown (seen old before) m) → AreHung old t0 → AreHung new t
  hung-moved leaf leaf moved known hung = tt
  hung-moved leaf (node l a r) moved known hung = absurd moved
  hung-moved (node l0 a0 r0) leaf moved known hung = absurd moved
  hung-moved (node l0 a0 r0) (node l a r) moved known hung = (
    (λ c.
        let b = changed-back (names_of (items (node l0 a0 r0))) (names_of (items (node l a r))) (names-moved ρ (node l0 a0 r0) (node l a r) moved) known c in
        let here = hung.0 (record { at = c.at; held = b.held; among = b.among; why = inl b.none }) in
        let index = (s.tells.moved s.holds.current.told).index here.at in
        record { at = here.at; held = s.commits.remains.held here.at here.held; name = index ∙ (ap ρ here.name ∙ sym moved.0) }),
    hung-moved l0 l moved.1 (λ m k. known m (among-front (items l0) (a0 ∷ items r0) m k)) hung.1,
    hung-moved r0 r moved.2 (λ m k. known m (among-back (items l0) (a0 ∷ items r0) m (inr k))) hung.2,
  )

  module _ (n : Reference) (id : ℕ) (of : Table) (ks : Keys) (nodes0 : List Reference) (t0 t : Tree (I ks))
      (p : paired names n id)
      (is : object_at h.objects id ≡ Some (Keyed of))
      (nodes_are : nodes0 ≡ names_of (items t0))
      (rows : s.holds.world.row.stands.tables.nodes id ≡ nodes0)
      (moved : AreMoved ρ t0 t)
      (tree : IsTree old (seen old before) n ks t0) where
    known : (m : Reference) → IsAmong m (names_of (items t0)) → IsKnown (seen old before) m
    known m a =
        let k = s.holds.world.row.stands.tables.are_nodes id m (subst (IsAmong m) (sym (rows ∙ nodes_are)) a) in record { it = k.it; is = k.there }

    abbrev a_node : (x : ℕ) → IsAmong (name_at old x) (names_of (items t0)) → IsNodeOf old h.objects names s.holds.world.row.stands.tables.nodes x
    a_node x a = record { name = n; id = id; named = p; table = of; table_is = is; among = subst (IsAmong (name_at old x)) (sym (rows ∙ nodes_are)) a }

    plain-moved : HaveNoTexts ks (seen old before) (names_of (items t0)) → HaveNoTexts ks (seen new after) (names_of (items t))
    plain-moved = by ks refl
      where
        by : (ls : Keys) → ks ≡ ls → HaveNoTexts ls (seen old before) (names_of (items t0)) → HaveNoTexts ls (seen new after) (names_of (items t))
        by by_texts e x = tt
        by by_ints e x = λ m it a there.
            let moves = (s.tells.moved s.holds.current.told).moves in
            let b = among-moved ρ m (names_of (items t0)) (subst (IsAmong m) (names-moved ρ t0 t moved) a) in
            let k = known b.before b.is in
            let w = moves.forth b.before k.it k.is in
            let same : it ≡ w.now = seen-one new after s.good s.one m it w.now there (subst (λ (r : Reference). seen new after r w.now) (sym b.now) w.there) in
            let refs : it.refs ≡ map ρ k.it.refs = ap (λ (y : Shown). y.refs) same ∙ now-refs (seen new after) ρ (ρ b.before) k.it w in
            ap (λ (rs : List Reference). get_or rs 2 Nil) refs ∙ (get-map k.it.refs 2 ∙ (ap ρ (x b.before k.it b.is k.is) ∙ moves.nil))
          where
            get-map : (ns : List Reference) (j : ℕ) → get_or (map ρ ns) j Nil ≡ ρ (get_or ns j Nil)
            get-map ns j = slot-map ρ ns j (s.tells.moved s.holds.current.told).moves.nil

    top-moved : HasChanged new (names_of (items t)) → HasChanged new (ρ n ∷ [])
    top-moved c =
        let b = changed-back (names_of (items t0)) (names_of (items t)) (names-moved ρ t0 t moved) known c in
        let top = tree.top (record { at = c.at; held = b.held; among = b.among; why = inl b.none }) in
        let index = (s.tells.moved s.holds.current.told).index top.at in
        let named : name_at old top.at ≡ n = elim top.among [ inl e ↦ e | inr none ↦ absurd none ] in
        let name : name_at new top.at ≡ ρ n = index ∙ ap ρ named in
        record {
          at = top.at;
          held = s.commits.remains.held top.at top.held;
          among = inl name;
          why = elim (none-or-some (header_at new top.at).pid) [
            | inl none ↦ inl none
            | inr some ↦
                let pid : ρ n ≡ Pid (header_at new top.at).pid = sym name ∙ name-pid (header_at new top.at) top.at some in
                let stored = to-be-stored old new before after names writing directory h s n id (header_at new top.at).pid p pid in
                let low = node-pid old new before after names writing directory h s c.at b.held (a_node c.at b.among) stored in
                absurd (omega (arith, low, b.still))
          ];
        }

    -- a table whose node is stored is stored
    table-stored : IsToBeStored old names writing directory n id → (q : ℕ) × (ρ n ≡ Pid q)
    table-stored (inl pid) = (pid.0, ap ρ pid.1 ∙ (s.tells.moved s.holds.current.told).moves.pids pid.0)
    table-stored (inr r) =
        let t1 = r.0 in
        let called : n ≡ name_at old t1 = some-one (sym p ∙ r.1.named) in
        let low : 1 ≤ (header_at new t1).pid = elim (none-or-some (header_at old t1).pid) [
          | inl none ↦ fresh-pid old new before after names writing directory h s t1 (inl (s.commits.fresh_all t1 r.2 none))
          | inr some ↦ let same = s.commits.remains.pids t1 some in omega (arith, same, some)
        ] in
        ((header_at new t1).pid, ap ρ called ∙ (sym ((s.tells.moved s.holds.current.told).index t1) ∙ name-pid (header_at new t1) t1 low))

    stored-moved : (pid : ℕ) → IsAmong (Pid pid) (names_of (items t)) → (q : ℕ) × (ρ n ≡ Pid q)
    stored-moved pid a =
        let b = among-moved ρ (Pid pid) (names_of (items t0)) (subst (IsAmong (Pid pid)) (names-moved ρ t0 t moved) a) in
        let k = known b.before b.is in
        by b.before b.is (sym b.now) k.it k.is
      where
        was-stored : (q : ℕ) (m : Reference) → m ≡ Pid q → IsAmong m (names_of (items t0)) → (r : ℕ) × (ρ n ≡ Pid r)
        was-stored q m e b = table-stored (inl (tree.stored q (subst (λ (k : Reference). IsAmong k (names_of (items t0))) e b)))

        by : (m : Reference) → IsAmong m (names_of (items t0)) → ρ m ≡ Pid pid → (it : Shown) → seen old before m it → (q : ℕ) × (ρ n ≡ Pid q)
        by m b e it (inr v) = was-stored v.pid m v.name_is b
        by m b e it (inl x) = elim (none-or-some (header_at old x.at).pid) [
          | inr some ↦ was-stored (header_at old x.at).pid m (x.name_is ∙ name-pid (header_at old x.at) x.at some) b
          | inl none ↦
              let index = (s.tells.moved s.holds.current.told).index x.at in
              let low = (pid-named new x.at pid (sym e ∙ (ap ρ x.name_is ∙ sym index))).low in
              elim (listed-or x.at s.fresh) [
                | inl l ↦
                    let reached = (s.commits.fresh_only x.at l).0 in
                    table-stored (s.meets.up x.at reached (a_node x.at (subst (λ (k : Reference). IsAmong k (names_of (items t0))) x.name_is b)) none)
                | inr away ↦ let same = s.commits.unstored x.at away in absurd (omega (arith, same, none, low))
              ]
        ]

    one-tree : IsTree new (seen new after) (ρ n) ks t
    one-tree = record { hung = hung-moved t0 t moved known tree.hung; plain = plain-moved tree.plain; top = top-moved; stored = stored-moved }

  pub trees-hold : (n : Reference) (id : ℕ) (of : Table) (it : Shown) (ks : Keys) (t : Tree (I ks)) → paired (map ρ names) n id → object_at h.objects id ≡ Some (Keyed of) → IsKeyed ks of
      → seen new after n it → link_of (slot_of it 0) ≡ root_of t → TreeStands (HasNode ks (seen new after)) t → IsTree new (seen new after) n ks t
  trees-hold n id of it ks t p is keyed there link stands =
      let moves = (s.tells.moved s.holds.current.told).moves in
      let b = named-before ρ names n id p in
      let old_table = s.holds.world.row.stands.tables.each b.before id of b.is is in
      let nodes0 = s.holds.world.row.stands.tables.nodes id in
      let tr = tree-in ks (seen old before) (paired names) old_table.root of nodes0 keyed old_table.has in
      let slot : slot_of old_table.it 0 ≡ old_table.root = ap (λ (rs : List Reference). get_or rs 0 Nil) old_table.refs in
      let link0 : link_of (slot_of old_table.it 0) ≡ root_of tr.tree = ap link_of slot ∙ tr.root_is in
      let w = moves.forth b.before old_table.it old_table.there in
      let same : it ≡ w.now = seen-one new after s.good s.one n it w.now there (subst (λ (r : Reference). seen new after r w.now) (sym b.now) w.there) in
      let refs : it.refs ≡ map ρ old_table.it.refs = ap (λ (y : Shown). y.refs) same ∙ now-refs (seen new after) ρ (ρ b.before) old_table.it w in
      let roots = side-moved (seen old before) (seen new after) ρ moves (seen-one new after s.good s.one) (nil-unseen new after) ks tr.tree t old_table.it it 0 refs link0 link tr.stands in
      let moved = tree-moved (seen old before) (seen new after) ρ moves (seen-one new after s.good s.one) (nil-unseen new after) ks tr.tree t tr.stands stands roots in
      let tree = s.holds.trees b.before id of old_table.it ks tr.tree b.is is keyed old_table.there link0 tr.stands in
      subst (λ (m : Reference). IsTree new (seen new after) m ks t) (sym b.now) (one-tree b.before id of ks nodes0 tr.tree t b.is is tr.nodes_are refl moved tree)
