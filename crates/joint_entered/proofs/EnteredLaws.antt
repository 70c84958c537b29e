-- All that an enter into a table is asked, from what was entered.
use Rattle.std.proofs.Common.{◌≡◌, ◌≢◌, ◌⊎◌, ℕ, ◌^◌, ◌<◌, List, [], slice_index, get_or, Option, Some, refl, sym, ap, ◌∙◌, subst, arith, inl, inr}
use Rattle.std.proofs.lemmas.Bool.{cases_eq}
use Rattle.joint_ops.specs.ps_outside.Outside.{Outside}
use Rattle.joint_ops.specs.obj_layout.Stored.{Space, Holds}
use Rattle.joint_ops.proofs.of_heap_meaning.of_obj_layout.StoredLaws.{Holds-one}
use Rattle.joint_ops.specs.obj_layout.declared.kind.Kind.TheVariants as kind
use Rattle.joint_ops.specs.obj_layout.declared.reference.Reference.{Reference}
use Rattle.joint_ops.specs.obj_layout.declared.reference.Reference.TheVariants.{Nil}
use Rattle.joint_ops.specs.swizzle.Heap as area
use Rattle.joint_ops.specs.swizzle.Heap.{IsHeap, IsHeld, IsListed, header_at, num_at, ref_at}
use Rattle.joint_ops.specs.swizzle.Joint.{Shown, name_at, shown_at}
use Rattle.joint_ops.proofs.of_heap_places.PlaceLaws.{slot-name}
use Rattle.joint_ops.specs.heap_places.Shapes.{slot_of}
use Rattle.joint_ops.specs.heap_meaning.Paired.{paired}
use Rattle.joint_ops.specs.heap_meaning.Standing.{IsOne}
use Rattle.joint_ops.specs.heap_meaning.Tables as standing
use Rattle.joint_ops.specs.heap_meaning.Tables.{names_of}
use Rattle.joint_ops.specs.ps_heap.Tables as meant
use Rattle.joint_ops.specs.ps_heap.Tables.{Key, Table, by_strings, without_keys}
use Rattle.joint_ops.specs.ps_heap.Values.{Pointer, Value}
use Rattle.joint_ops.specs.ps_heap.Objects.{Heap, Keyed, object_at}
use Rattle.joint_ops.specs.ps_heap.Held.{Held}
use Rattle.joint_ops.specs.World.{seen}
use Rattle.joint_ops.proofs.SeenLaws.{seen-held, seen-is, seen-one}
use Rattle.avl_trees.specs.Trees.{Tree, items}
use Rattle.avl_trees.specs.Standing.{Stands, root_of}
use Rattle.node_rows.specs.Keys as keys
use Rattle.node_rows.specs.Keys.{Keys, KeyOf, Seen}
use Rattle.node_rows.specs.Nodes.{I, HasNode, IsAmong, link_of}
use Rattle.table_nodes.specs.Nodes as nodes
use Rattle.table_nodes.specs.Steps.{IsPlace, place}
use Rattle.table_lib.specs.Tables.{key_number}
use Rattle.joint_tables.proofs.CountLaws.{count-low}
use Rattle.joint_tables.proofs.OperandLaws.{keyed, tree-of}
use Rattle.joint_tables.proofs.SeenLaws.{nodes-seen, tree-within}
use Rattle.commit_walk.specs.declared.homes.Source.{Source}
use Rattle.joint_held.specs.Held.{AreTrees, HoldsRun, IsKeyed, IsOfHeap, IsTree}
use Rattle.joint_held.specs.Entering.{EntersTable, IsEnter}
use Rattle.joint_held.proofs.StoreLaws.{same-store, store-low}
use Rattle.joint_held.proofs.TreeLaws.{tree-in, tree-one}
use Rattle.joint_entered.specs.Entered.{HasAnswered, HasEntered}
use Rattle.joint_entered.proofs.AnswerLaws.{answered-table}
use Rattle.joint_entered.proofs.BroughtLaws.{brought}
use Rattle.joint_entered.proofs.OutcomeLaws.{HasChanged, Outcome, StaysBeside, again, first, outcome, rest, stays-beside}
use Rattle.joint_entered.proofs.OtherLaws.{other-stands, other-tree, others-seen}
use Rattle.joint_entered.proofs.SeenLaws.{held-seen}
use Rattle.joint_entered.proofs.TableLaws.{changed-tree, empty-tree}

-- the kind of keys tells of which kind a table is
same-kind : (k ks : Keys) (table : Table) → IsKeyed k table → standing.key_kind table ≡ key_number ks → k ≡ ks
same-kind keys.by_texts keys.by_texts (by_strings es) i e = refl
same-kind keys.by_ints keys.by_ints (meant.by_ints es) i e = refl
same-kind keys.by_texts keys.by_ints (by_strings es) i e = absurd (omega (arith, e))
same-kind keys.by_ints keys.by_texts (meant.by_ints es) i e = absurd (omega (arith, e))
same-kind keys.by_texts ks without_keys i e = absurd i
same-kind keys.by_ints ks without_keys i e = absurd i
same-kind keys.by_texts ks (meant.by_ints es) i e = absurd i
same-kind keys.by_ints ks (by_strings es) i e = absurd i

unkeyed : (k : Keys) (table : Table) → IsKeyed k table → standing.key_kind table ≡ 0 → ⊥
unkeyed keys.by_texts (by_strings es) i e = omega (arith, e)
unkeyed keys.by_ints (meant.by_ints es) i e = omega (arith, e)
unkeyed keys.by_texts without_keys i e = i
unkeyed keys.by_ints without_keys i e = i
unkeyed keys.by_texts (meant.by_ints es) i e = i
unkeyed keys.by_ints (by_strings es) i e = i

is-keyed : (ks : Keys) (es : List (meant.Entry (KeyOf ks))) → IsKeyed ks (keyed ks es)
is-keyed keys.by_texts es = tt
is-keyed keys.by_ints es = tt

some_name : (a b : Reference) → Some a ≡ Some b → a ≡ b
some_name a b e = cc

some_table : (a b : Table) → Some (Keyed a) ≡ Some (Keyed b) → a ≡ b
some_table a b e = cc

module _ (ks : Keys) (old new : area.Heap) (before after : Outside Space) (names : List Reference) (writing : List Source) (directory : Option ℕ) (h : Held) (x id : ℕ) (key : KeyOf ks) (to : Option ℕ) (objects : Heap)
    (was_sound : IsHeap old) (sound : IsHeap new) (run : HoldsRun old before names writing directory h)
    (w : HasEntered ks old new before after names h x id key to objects) where
  abbrev S : Seen
  S = seen old before

  abbrev N : Seen
  N = seen new after

  abbrev mine : ℕ → List Reference
  mine i = run.world.row.stands.tables.nodes i

  abbrev later : ℕ → List Reference
  later i = w.world.row.stands.tables.nodes i

  old_one : IsOne S
  old_one = seen-one old before was_sound run.store.one

  new_one : IsOne N
  new_one = seen-one new after sound (same-store before after w.spares.contents run.store).one

  low : (pid : ℕ) (words : List ℕ) → Holds before pid words → pid < 2 ^ 30
  low pid words there = store-low before pid words run.store there

  single : nodes.IsSingle before
  single = record { one = λ pid a b p q. Holds-one before pid a b run.store.one p q }

  here : IsPlace (place old before)
  here = record { heap = was_sound; single = single }

  came-of : Outcome ks old new before after x w.was (mine id)
  came-of = outcome ks old new before after x (mine id) key here
      (λ k t table. (let few = count-low old before here low k x t table in omega (arith, few)))
      to w.enters names w.was (tree-of old before h.objects names was_sound run.world x id w.was w.of.held w.of.named w.was_is)

  beside : StaysBeside ks old new before after x (mine id)
  beside = stays-beside ks old new before after x (mine id) key w.was came-of

  -- the object is a table
  table-there : (it : Shown) × S (name_at old x) it × (it.kind ≡ kind.Table)
  table-there = let t = run.world.row.stands.tables.each (name_at old x) id w.was w.of.named w.was_is in (t.it, t.there, t.kind_is)

  is-table : (header_at old x).kind ≡ kind.Table
  is-table = sym (ap (λ (i : Shown). i.kind) (seen-is old before x (name_at old x) table-there.0 was_sound w.of.held refl table-there.1)) ∙ table-there.2

  enter : IsEnter old new before after x
  enter = record {
    held = w.of.held;
    table = is-table;
    lasts = λ y held. (let l = w.spares.lasts y held in record { held = l.held; name = l.name; kind = l.kind; refs = l.refs; nums = l.nums });
    kept = λ y held. elim (w.spares.kept y held) [ inl e ↦ inl e | inr o ↦ inr o.1 ];
    home = w.spares.homes x w.of.held;
    noted = beside.noted;
    still = w.spares.noted;
    only = λ y l. elim (w.spares.only y l) [ inl was ↦ inl was | inr (inl e) ↦ inr (inl e) | inr (inr n) ↦ inr (inr n.kind) ];
    others = others-seen ks old new before after x (mine id) was_sound sound single w.spares beside w.of.held is-table;
    contents = w.spares.contents;
  }

  -- The table itself.

  -- what is seen of it now
  table-now : (n : Reference) (it : Shown) → paired names n id → N n it → (n ≡ name_at old x) × (it ≡ shown_at new x)
  table-now n it named there =
      let e = some_name n (name_at old x) (sym named ∙ w.of.named) in
      let l = w.spares.lasts x w.of.held in
      (e, seen-is new after x n it sound l.held (l.name ∙ sym e) there)

  kind-now : (n : Reference) (table : Table) → paired names n id → object_at objects id ≡ Some (Keyed table) → standing.key_kind table ≡ num_at new x 1
  kind-now n table named is =
      let t = w.world.row.stands.tables.each n id table named is in
      let same = (table-now n t.it named t.there).1 in
      ap (λ (ws : List ℕ). slice_index ws 1) (sym t.nums) ∙ ap (λ (i : Shown). slice_index i.nums 1) same

  -- its tree is the one that it has now
  module _ (c : HasChanged ks old new before after x (mine id)) where
    stands-now : Stands (HasNode ks N) c.now
    stands-now = tree-within ks (nodes.seen new after) N c.now (nodes-seen new after) c.has.table.stands

    root-now : link_of (slot_of (shown_at new x) 0) ≡ root_of c.now
    root-now = ap link_of (slot-name new x 0) ∙ c.has.table.root

    own-tree : (k : Keys) → k ≡ ks → (P : (k : Keys) → Tree (I k) → Type 0) → P ks c.now → (t : Tree (I k)) → link_of (slot_of (shown_at new x) 0) ≡ root_of t → Stands (HasNode k N) t → P k t
    own-tree k same P p t root stands =
        subst (λ (j : Keys). (t : Tree (I j)) → link_of (slot_of (shown_at new x) 0) ≡ root_of t → Stands (HasNode j N) t → P j t) (sym same)
        (λ t root stands. subst (P ks) (tree-one ks N c.now t new_one (sym root-now ∙ root) stands-now stands) p) t root stands

    own-kind : (n : Reference) (table : Table) (k : Keys) → paired names n id → object_at objects id ≡ Some (Keyed table) → IsKeyed k table → k ≡ ks
    own-kind n table k named is keyed = same-kind k ks table keyed (kind-now n table named is ∙ c.has.table.keys.kind)

    own-is : (n : Reference) (table : Table) (it : Shown) (k : Keys) (t : Tree (I k)) → IsTree old S (name_at old x) ks c.was → paired names n id → object_at objects id ≡ Some (Keyed table) → IsKeyed k table → N n it
        → link_of (slot_of it 0) ≡ root_of t → Stands (HasNode k N) t → IsTree new N n k t
    own-is n table it k t was named is keyed there root stands =
        let now = table-now n it named there in
        own-tree k (own-kind n table k named is keyed) (λ j u. IsTree new N n j u)
        (changed-tree ks old new before after x (mine id) was_sound sound single w.spares beside c w.of.held n (sym now.0) (subst (λ (m : Reference). IsTree old S m ks c.was) (sym now.0) was))
        t (ap (λ (i : Shown). link_of (slot_of i 0)) (sym now.1) ∙ root) stands

    own-names : (k : Keys) → k ≡ ks → (t : Tree (I k)) → link_of (slot_of (shown_at new x) 0) ≡ root_of t → Stands (HasNode k N) t → names_of (items t) ≡ names_of (items c.now)
    own-names k same t root stands = own-tree k same (λ j u. names_of (items u) ≡ names_of (items c.now)) refl t root stands

    -- a node of it now was one before, or nothing was seen under its name
    own-among : (n : Reference) (table : Table) (k : Keys) (m : Reference) → paired names n id → object_at objects id ≡ Some (Keyed table) → IsKeyed k table → IsAmong m (later id)
        → IsAmong m (mine id) ⊎ ((it : Shown) → S m it → ⊥)
    own-among n table k m named is keyed among =
        let t = w.world.row.stands.tables.each n id table named is in
        let u = tree-in k N (paired names) t.root table (later id) keyed t.has in
        let same = (table-now n t.it named t.there).1 in
        let slot : slot_of t.it 0 ≡ t.root = ap (λ (r : List Reference). get_or r 0 Nil) t.refs in
        let root = ap (λ (i : Shown). link_of (slot_of i 0)) (sym same) ∙ (ap link_of slot ∙ u.root_is) in
        let now = subst (IsAmong m) (u.nodes_are ∙ own-names k (own-kind n table k named is keyed) u.tree root u.stands) among in
        elim (c.names m now) [ inl was ↦ inl (subst (IsAmong m) (sym c.mine_is) was) | inr unseen ↦ inr unseen ]

  -- the tree that it had
  tree-first : (c : HasChanged ks old new before after x (mine id)) → c.was ≡ Rattle.avl_trees.specs.Trees.leaf → IsTree old S (name_at old x) ks c.was
  tree-first c e = subst (IsTree old S (name_at old x) ks) (sym e) (empty-tree ks old S (name_at old x))

  tree-again : (entries : List (meant.Entry (KeyOf ks))) → w.was ≡ keyed ks entries → (c : HasChanged ks old new before after x (mine id)) → IsTree old S (name_at old x) ks c.was
  tree-again entries e c =
      run.trees (name_at old x) id w.was (shown_at old x) ks c.was w.of.named w.was_is (subst (IsKeyed ks) (sym e) (is-keyed ks entries)) (seen-held old before x w.of.held)
      (ap link_of (slot-name old x 0) ∙ c.pairs.root) (tree-within ks (nodes.seen old before) S c.was (nodes-seen old before) c.pairs.stands)

  own : (n : Reference) (table : Table) (it : Shown) (k : Keys) (t : Tree (I k)) → paired names n id → object_at objects id ≡ Some (Keyed table) → IsKeyed k table → N n it
      → link_of (slot_of it 0) ≡ root_of t → Stands (HasNode k N) t → Outcome ks old new before after x w.was (mine id) → IsTree new N n k t
  own n table it k t named is keyed there root stands (first e c l) = own-is c n table it k t (tree-first c l) named is keyed there root stands
  own n table it k t named is keyed there root stands (again entries e c) = own-is c n table it k t (tree-again entries e c) named is keyed there root stands
  own n table it k t named is keyed there root stands (rest e r) = absurd (unkeyed k table keyed (kind-now n table named is ∙ r.unused.kind))

  by-table : {A : Type 0} (table : Table) → (table ≡ without_keys → A) → ((k : Keys) → IsKeyed k table → A) → A
  by-table without_keys f g = f refl
  by-table (by_strings es) f g = g keys.by_texts tt
  by-table (meant.by_ints es) f g = g keys.by_ints tt

  -- a table without keys has no nodes
  none-later : (n : Reference) (i : ℕ) (table : Table) → paired names n i → object_at objects i ≡ Some (Keyed table) → table ≡ without_keys → later i ≡ []
  none-later n i table named is e =
      let t = w.world.row.stands.tables.each n i table named is in
      (subst (λ (u : Table). standing.HasNodes N (paired names) t.root u (later i)) e t.has).1

  own-back : (n : Reference) (table : Table) (m : Reference) (y : ℕ) → IsHeld old y → name_at new y ≡ m → paired names n id → object_at objects id ≡ Some (Keyed table) → Outcome ks old new before after x w.was (mine id) → IsAmong m (later id)
      → IsAmong m (mine id)
  own-back n table m y held name named is o among =
      by-table table (λ e. absurd (subst (IsAmong m) (none-later n id table named is e) among)) (λ k keyed. go k keyed o)
    where
      seen-y : ((it : Shown) → S m it → ⊥) → ⊥
      seen-y unseen = unseen (shown_at old y) (subst (λ (n : Reference). S n (shown_at old y)) name (held-seen ks old new before after x (mine id) was_sound sound single w.spares beside y held))

      of : HasChanged ks old new before after x (mine id) → (k : Keys) → IsKeyed k table → IsAmong m (mine id)
      of c k keyed = elim (own-among c n table k m named is keyed among) [ inl was ↦ was | inr unseen ↦ absurd (seen-y unseen) ]

      go : (k : Keys) → IsKeyed k table → Outcome ks old new before after x w.was (mine id) → IsAmong m (mine id)
      go k keyed (first e c l) = of c k keyed
      go k keyed (again entries e c) = of c k keyed
      go k keyed (rest e r) = absurd (unkeyed k table keyed (kind-now n table named is ∙ r.unused.kind))

  -- Other tables.

  module _ (n : Reference) (i : ℕ) (table : Table) (ne : i ≢ id) (named : paired names n i) (is : object_at objects i ≡ Some (Keyed table)) where
    was-is : object_at h.objects i ≡ Some (Keyed table)
    was-is = sym (w.others i ne) ∙ is

    tab : standing.IsTable S (paired names) n table (mine i)
    tab = run.world.row.stands.tables.each n i table named was-is

    tab-now : standing.IsTable N (paired names) n table (later i)
    tab-now = w.world.row.stands.tables.each n i table named is

    other-name : n ≢ name_at old x
    other-name e = ne (run.world.row.stands.one_number n i id named (w.of.named ∙ ap Some (sym e)))

    tab-seen : N n tab.it
    tab-seen = others-seen ks old new before after x (mine id) was_sound sound single w.spares beside w.of.held is-table n tab.it
        (λ e. (let bad : kind.Table ≡ kind.Node = sym tab.kind_is ∙ e in cc)) other-name tab.there

    slot : slot_of tab.it 0 ≡ tab.root
    slot = ap (λ (r : List Reference). get_or r 0 Nil) tab.refs

    module _ (k : Keys) (keyed_as : IsKeyed k table) where
      was-tree : Rattle.joint_held.proofs.TreeLaws.TreeIn k S tab.root (mine i)
      was-tree = tree-in k S (paired names) tab.root table (mine i) keyed_as tab.has

      apart : (m : Reference) → IsAmong m (names_of (items was-tree.tree)) → IsAmong m (names_of beside.is) → ⊥
      apart m a q = ne (run.world.row.stands.tables.apart i id m (subst (IsAmong m) (sym was-tree.nodes_are) a) (subst (IsAmong m) (sym beside.mine_is) q))

      root-was : link_of (slot_of tab.it 0) ≡ root_of was-tree.tree
      root-was = ap link_of slot ∙ was-tree.root_is

      one-tree : (it : Shown) (t : Tree (I k)) → N n it → link_of (slot_of it 0) ≡ root_of t → Stands (HasNode k N) t → was-tree.tree ≡ t
      one-tree it t there root stands =
          let same = new_one n tab.it it tab-seen there in
          tree-one k N was-tree.tree t new_one (sym root-was ∙ (ap (λ (s : Shown). link_of (slot_of s 0)) same ∙ root))
          (other-stands ks old new before after x (mine id) was_sound sound single w.spares beside w.of.held is-table k was-tree.tree was-tree.stands apart) stands

      other : (it : Shown) (t : Tree (I k)) → N n it → link_of (slot_of it 0) ≡ root_of t → Stands (HasNode k N) t → IsTree new N n k t
      other it t there root stands =
          subst (IsTree new N n k) (one-tree it t there root stands)
          (other-tree ks old new before after x (mine id) was_sound sound single w.spares beside w.of.held is-table k was-tree.tree was-tree.stands apart n
          (run.trees n i table tab.it k was-tree.tree named was-is keyed_as tab.there root-was was-tree.stands))

      keyed-nodes : later i ≡ mine i
      keyed-nodes =
          let u = tree-in k N (paired names) tab-now.root table (later i) keyed_as tab-now.has in
          let slot_now : slot_of tab-now.it 0 ≡ tab-now.root = ap (λ (r : List Reference). get_or r 0 Nil) tab-now.refs in
          let same = one-tree tab-now.it u.tree tab-now.there (ap link_of slot_now ∙ u.root_is) u.stands in
          u.nodes_are ∙ (ap (λ (t : Tree (I k)). names_of (items t)) (sym same) ∙ sym was-tree.nodes_are)

    other-nodes : later i ≡ mine i
    other-nodes = by-table table (λ e. none-later n i table named is e ∙ sym (subst (λ (u : Table). standing.HasNodes S (paired names) tab.root u (mine i)) e tab.has).1) keyed-nodes

  trees : AreTrees new N objects names
  trees n i table it k t named is keyed there root stands = elim (cases_eq i id) [
    | inl e ↦ own n table it k t (subst (paired names n) e named) (subst (λ j. object_at objects j ≡ Some (Keyed table)) e is) keyed there root stands came-of
    | inr ne ↦ other n i table ne named is k keyed it t there root stands
  ]

  were : (y : ℕ) → IsHeld old y → IsOfHeap new objects names later y → IsOfHeap old h.objects names mine y
  were y held (inl no_node) = inl (λ e. no_node ((w.spares.lasts y held).kind ∙ e))
  were y held (inr n) = inr (elim (cases_eq n.id id) [
    | inl e ↦
        let named = subst (paired names n.name) e n.named in
        let is = subst (λ j. object_at objects j ≡ Some (Keyed n.table)) e n.table_is in
        let among = own-back n.name n.table (name_at new y) y held refl named is came-of (subst (λ j. IsAmong (name_at new y) (later j)) e n.among) in
        record { name = n.name; id = id; named = named; table = w.was; table_is = w.was_is; among = subst (λ m. IsAmong m (mine id)) (w.spares.lasts y held).name among }
    | inr ne ↦
        let among = subst (IsAmong (name_at new y)) (other-nodes n.name n.id n.table ne n.named n.table_is) n.among in
        record {
          name = n.name;
          id = n.id;
          named = n.named;
          table = n.table;
          table_is = sym (w.others n.id ne) ∙ n.table_is;
          among = subst (λ m. IsAmong m (mine n.id)) (w.spares.lasts y held).name among;
        }
  ])

  pub entered-table : EntersTable old new before after names h run.world.row.stands.tables.nodes x id objects
  entered-table = record {
    enter = enter;
    brought = brought ks old new before after x sound run.store.wide w.spares beside.fetched run.current.told.whole;
    of = w.of;
    world = w.world;
    trees = trees;
    were = were;
  }

-- what was answered is of a table with an id, and is such an enter
pub answered-enter : (ks : Keys) (old new : area.Heap) (before after : Outside Space) (names : List Reference) (writing : List Source) (directory : Option ℕ) (h : Held) (x : ℕ) (table : Value) (named : Key) (v : Value) (key : KeyOf ks) (to : Option ℕ) (objects : Heap) → IsHeap old → IsHeap new
    → (run : HoldsRun old before names writing directory h) → HasAnswered ks old new before after names h x table named v key to objects
    → (id : ℕ) × (table ≡ Pointer id) × EntersTable old new before after names h run.world.row.stands.tables.nodes x id objects
answered-enter ks old new before after names writing directory h x table named v key to objects was_sound sound run d =
    let w = answered-table ks old new before after names h x table named v key to objects was_sound run.world d in
    (w.0, w.1, entered-table ks old new before after names writing directory h x w.0 key to objects was_sound sound run w.2)
