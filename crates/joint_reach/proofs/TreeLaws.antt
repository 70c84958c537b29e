-- The nodes of a table's search tree: what their slots name, and what a walk comes to through them.
use Rattle.std.proofs.Common.{inl, inr, ◌⊎◌, ◌≡◌, ◌≢◌, ℕ, List, [], ◌∷◌, ◌++◌, length, get_or, refl, sym, ap, ◌∙◌, subst, arith, Some, None}
use Rattle.joint_ops.specs.obj_layout.declared.kind.Kind.TheVariants as kind
use Rattle.joint_ops.specs.obj_layout.declared.reference.Reference.{Reference}
use Rattle.joint_ops.specs.obj_layout.declared.reference.Reference.TheVariants as name
use Rattle.joint_ops.specs.swizzle.Joint.{Shown}
use Rattle.joint_ops.specs.heap_places.Shapes.{slot_of}
use Rattle.joint_ops.specs.ps_heap.Tables.{Entry, Table, without_keys, by_strings, by_ints}
use Rattle.joint_ops.specs.ps_heap.Objects.{Keyed}
use Rattle.joint_ops.specs.ps_heap.References.{pointers, values_ids}
use Rattle.joint_ops.specs.heap_meaning.avl_trees.Trees.{Tree, leaf, node, items}
use Rattle.joint_ops.specs.heap_meaning.avl_trees.Standing.{Item, Stands, root_of}
use Rattle.joint_ops.specs.heap_meaning.node_rows.Keys as keys
use Rattle.joint_ops.specs.heap_meaning.node_rows.Keys.{Keys, KeyOf, IsKey}
use Rattle.joint_ops.specs.heap_meaning.node_rows.Nodes.{I, IsAmong, HasNode, link_of}
use Rattle.joint_ops.specs.heap_meaning.Tables.{ArePairs, names_of, HasEntries, HasNodes, IsTable}
use Rattle.joint_ops.specs.heap_meaning.Values.{Seen, Pairing, IsKindOf}
use Rattle.heap_meaning.proofs.TableLaws.{among-front, among-back}
use Rattle.reaching.specs.Reaching.{IsIn}
use Rattle.joint_held.specs.Held.{HaveNoTexts, IsKeyed}
use Rattle.joint_reach.proofs.SeenLaws.{ids_in}
use Rattle.joint_reach.proofs.RowLaws.{ObjectOf}

-- the values of these items are paired with ids of a list
abbrev pub ArePaired : {K : Type 0} → Pairing → List (Item Reference K Reference) → List ℕ → Type 0
ArePaired pair [] ids = Unit {0}
ArePaired pair (a ∷ is) ids = ObjectOf pair a.entry.value ids × ArePaired pair is ids

paired-more : {K : Type 0} (pair : Pairing) (is : List (Item Reference K Reference)) (ids : List ℕ) (j : ℕ) → ArePaired pair is ids → ArePaired pair is (j ∷ ids)
paired-more pair [] ids j p = tt
paired-more pair (a ∷ is) ids j p = (record { id = p.0.id; is = p.0.is; within = inr p.0.within }, paired-more pair is ids j p.1)

pairs-paired : {K : Type 0} (seen : Seen) (pair : Pairing) (is : List (Item Reference K Reference)) (es : List (Entry K)) → ArePairs seen pair is es → ArePaired pair is (values_ids (pointers es))
pairs-paired seen pair [] [] p = tt
pairs-paired seen pair [] (e ∷ es) p = absurd p
pairs-paired seen pair (a ∷ is) [] p = absurd p
pairs-paired seen pair (a ∷ is) (e ∷ es) p =
    (record { id = e.object; is = p.1.0; within = inl refl }, paired-more pair is (values_ids (pointers es)) e.object (pairs-paired seen pair is es p.2))

paired-front : {K : Type 0} (pair : Pairing) (is js : List (Item Reference K Reference)) (ids : List ℕ) → ArePaired pair (is ++ js) ids → ArePaired pair is ids
paired-front pair [] js ids p = tt
paired-front pair (a ∷ is) js ids p = (p.0, paired-front pair is js ids p.1)

paired-back : {K : Type 0} (pair : Pairing) (is js : List (Item Reference K Reference)) (ids : List ℕ) → ArePaired pair (is ++ js) ids → ArePaired pair js ids
paired-back pair [] js ids p = p
paired-back pair (a ∷ is) js ids p = paired-back pair is js ids p.1

-- A name is that of the root of a tree whose values have ids of a list, and whose nodes are among these.
pub record NodeOf (seen : Seen) (pair : Pairing) (n : Reference) (ids : List ℕ) (nodes : List Reference) : Type 0 where
  pub ks : Keys
  pub tree : Tree (I ks)
  pub root : Some n ≡ root_of tree
  pub stands : Stands (HasNode ks seen) tree
  pub values : ArePaired pair (items tree) ids
  pub plain : HaveNoTexts ks seen (names_of (items tree))
  pub within : (m : Reference) → IsAmong m (names_of (items tree)) → IsAmong m nodes

-- what a tree is that has a root: it isn't a leaf
pub some-link : (n : Reference) → n ≢ name.Nil → link_of n ≡ Some n
some-link name.Nil ne = absurd (ne refl)
some-link (name.Pid p) ne = refl
some-link (name.Local x) ne = refl

-- to what a slot of a node leads: a text, a node below, or an object with an id
pub data NodeLeads (seen : Seen) (pair : Pairing) (n : Reference) (ids : List ℕ) (nodes : List Reference) : Type 0 where
  node_text : (is : IsKindOf seen n kind.Text) → NodeLeads seen pair n ids nodes
  node_below : (is : NodeOf seen pair n ids nodes) → NodeLeads seen pair n ids nodes
  node_value : (is : ObjectOf pair n ids) → NodeLeads seen pair n ids nodes

plain-part : (ks : Keys) (seen : Seen) (ns ms : List Reference) → ((n : Reference) → IsAmong n ms → IsAmong n ns) → HaveNoTexts ks seen ns → HaveNoTexts ks seen ms
plain-part keys.by_texts seen ns ms within p = tt
plain-part keys.by_ints seen ns ms within p = λ n it k there. p n it (within n k) there

record FourOf (ns : List Reference) (n : Reference) : Type 0 where
  cases : (n ≡ get_or ns 0 name.Nil) ⊎ ((n ≡ get_or ns 1 name.Nil) ⊎ ((n ≡ get_or ns 2 name.Nil) ⊎ (n ≡ get_or ns 3 name.Nil)))

four-of : (ns : List Reference) (n : Reference) → length ns ≡ 4 → IsAmong n ns → FourOf ns n
four-of [] n long k = absurd k
four-of (a ∷ []) n long k = absurd (omega (arith, long))
four-of (a ∷ b ∷ []) n long k = absurd (omega (arith, long))
four-of (a ∷ b ∷ c ∷ []) n long k = absurd (omega (arith, long))
four-of (a ∷ b ∷ c ∷ d ∷ []) n long (inl e) = record { cases = inl e }
four-of (a ∷ b ∷ c ∷ d ∷ []) n long (inr (inl e)) = record { cases = inr (inl e) }
four-of (a ∷ b ∷ c ∷ d ∷ []) n long (inr (inr (inl e))) = record { cases = inr (inr (inl e)) }
four-of (a ∷ b ∷ c ∷ d ∷ []) n long (inr (inr (inr (inl e)))) = record { cases = inr (inr (inr e)) }
four-of (a ∷ b ∷ c ∷ d ∷ []) n long (inr (inr (inr (inr k)))) = absurd k
four-of (a ∷ b ∷ c ∷ d ∷ e ∷ ns) n long k = absurd (omega (arith, long))

-- what the name of a node that is seen leads to
pub node-leads : (seen : Seen) (pair : Pairing) (m n : Reference) (ids : List ℕ) (nodes : List Reference) (it : Shown) → ((a b : Shown) → seen m a → seen m b → a ≡ b) → n ≢ name.Nil
    → NodeOf seen pair m ids nodes → seen m it → IsAmong n it.refs → NodeLeads seen pair n ids nodes
node-leads seen pair m n ids nodes it one some of there k = go of.ks of.tree of.root of.stands of.values of.plain of.within
  where
    side : (ks : Keys) (t : Tree (I ks)) (s : Reference) → n ≡ s → link_of s ≡ root_of t → Stands (HasNode ks seen) t → ArePaired pair (items t) ids → HaveNoTexts ks seen (names_of (items t))
        → ((x : Reference) → IsAmong x (names_of (items t)) → IsAmong x nodes) → NodeLeads seen pair n ids nodes
    side ks t s e root stands values plain within =
        node_below (record { ks = ks; tree = t; root = sym (some-link n some) ∙ (ap link_of e ∙ root); stands = stands; values = values; plain = plain; within = within })

    key-case : (ks : Keys) (is : Shown) (key : KeyOf ks) (names : List Reference) → seen m is → IsAmong m names → n ≡ slot_of is 2 → IsKey ks seen is key → HaveNoTexts ks seen names → NodeLeads seen pair n ids nodes
    key-case keys.by_texts is key names here among e key_is plain =
        node_text (subst (λ x. IsKindOf seen x kind.Text) (sym e) (record { it = key_is.it; there = key_is.there; kind_is = key_is.kind }))
    key-case keys.by_ints is key names here among e key_is plain = absurd (some (e ∙ plain m is among here))

    value-case : {K : Type 0} (ls rs : List (Item Reference K Reference)) (a : Item Reference K Reference) → n ≡ a.entry.value → ArePaired pair (ls ++ a ∷ rs) ids → NodeLeads seen pair n ids nodes
    value-case ls rs a e values =
        let v = (paired-back pair ls (a ∷ rs) ids values).0 in
        node_value (record { id = v.id; is = subst (λ x. pair x v.id) (sym e) v.is; within = v.within })

    go : (ks : Keys) (t : Tree (I ks)) → Some m ≡ root_of t → Stands (HasNode ks seen) t → ArePaired pair (items t) ids → HaveNoTexts ks seen (names_of (items t)) → ((x : Reference) → IsAmong x (names_of (items t)) → IsAmong x nodes)
        → NodeLeads seen pair n ids nodes
    go ks leaf root stands values plain within = let bad : Some m ≡ None = root in absurd (cc)
    go ks (node l a r) root stands values plain within =
        let named : m ≡ a.name = some_name m a.name root in
        let h = stands.0 in
        let same : it ≡ h.it = one it h.it there (subst (λ x. seen x h.it) (sym named) h.there) in
        let here : seen m h.it = subst (seen m) same there in
        let front = λ (x : Reference) (b : IsAmong x (names_of (items l))). among-front (items l) (a ∷ items r) x b in
        let back = λ (x : Reference) (b : IsAmong x (names_of (items r))). among-back (items l) (a ∷ items r) x (inr b) in
        elim (four-of h.it.refs n h.is.refs (subst (λ (s : Shown). IsAmong n s.refs) same k)).cases [
          | inl e ↦ side ks l (slot_of h.it 0) e h.is.left stands.1 (paired-front pair (items l) (a ∷ items r) ids values) (plain-part ks seen (names_of (items (node l a r))) (names_of (items l)) front plain) (λ x b. within x (front x b))
          | inr (inl e) ↦
              side ks r (slot_of h.it 1) e h.is.right stands.2 (paired-back pair (items l) (a ∷ items r) ids values).1
              (plain-part ks seen (names_of (items (node l a r))) (names_of (items r)) back plain) (λ x b. within x (back x b))
          | inr (inr (inl e)) ↦
              key-case ks h.it a.entry.key (names_of (items (node l a r))) here (subst (λ x. IsAmong x (names_of (items (node l a r)))) (sym named) (among-back (items l) (a ∷ items r) a.name (inl refl))) e h.is.key plain
          | inr (inr (inr e)) ↦ value-case (items l) (items r) a (e ∙ h.is.value) values
        ]
      where
        some_name : (a b : Reference) → Some a ≡ Some b → a ≡ b
        some_name a b e = cc

-- what a name in the slot of a table leads to
pub table-leads : (seen : Seen) (pair : Pairing) (m n : Reference) (table : Table) (nodes : List Reference) (tab : IsTable seen pair m table nodes) → n ≢ name.Nil
    → ((ks : Keys) (t : Tree (I ks)) → IsKeyed ks table → link_of (slot_of tab.it 0) ≡ root_of t → Stands (HasNode ks seen) t → HaveNoTexts ks seen (names_of (items t)))
    → IsAmong n tab.it.refs → NodeOf seen pair n (ids_in (Keyed table)) nodes
table-leads seen pair m n table nodes tab some plain k = go table tab.has plain
  where
    is_root : n ≡ tab.root
    is_root = elim (subst (IsAmong n) tab.refs k) [ inl e ↦ e | inr b ↦ absurd b ]

    Plain : Table → Type 0
    Plain u = (ks : Keys) (t : Tree (I ks)) → IsKeyed ks u → link_of (slot_of tab.it 0) ≡ root_of t → Stands (HasNode ks seen) t → HaveNoTexts ks seen (names_of (items t))

    entries : (ks : Keys) (es : List (Entry (KeyOf ks))) (u : Table) → HasEntries ks seen pair tab.root es nodes → Plain u → IsKeyed ks u → NodeOf seen pair n (values_ids (pointers es)) nodes
    entries ks es u h plain_of keyed = record {
      ks = ks;
      tree = h.tree;
      root = sym (some-link n some) ∙ (ap link_of is_root ∙ h.root_is);
      stands = h.stands;
      values = pairs-paired seen pair (items h.tree) es h.pairs;
      plain = plain_of ks h.tree keyed (ap (λ (r : List Reference). link_of (get_or r 0 name.Nil)) tab.refs ∙ h.root_is) h.stands;
      within = λ x b. subst (IsAmong x) (sym h.nodes_are) b;
    }

    go : (u : Table) → HasNodes seen pair tab.root u nodes → Plain u → NodeOf seen pair n (ids_in (Keyed u)) nodes
    go without_keys h p = absurd (some (is_root ∙ h.0))
    go (by_strings es) h p = entries keys.by_texts es (by_strings es) h p tt
    go (by_ints es) h p = entries keys.by_ints es (by_ints es) h p tt

-- The other way round: the node of an entry.

abbrev pub IsItem : {K : Type 0} → Item Reference K Reference → List (Item Reference K Reference) → Type 0
IsItem a [] = ⊥
IsItem a (b ∷ is) = (a ≡ b) ⊎ IsItem a is

pub item-cases : {K : Type 0} (a : Item Reference K Reference) (is js : List (Item Reference K Reference)) → IsItem a (is ++ js) → IsItem a is ⊎ IsItem a js
item-cases a [] js k = inr k
item-cases a (b ∷ is) js (inl e) = inl (inl e)
item-cases a (b ∷ is) js (inr k) = elim (item-cases a is js k) [ inl m ↦ inl (inr m) | inr m ↦ inr m ]

pub item-among : {K : Type 0} (a : Item Reference K Reference) (is : List (Item Reference K Reference)) → IsItem a is → IsAmong a.name (names_of is)
item-among a [] k = absurd k
item-among a (b ∷ is) (inl e) = inl (ap (λ (c : Item Reference _ Reference). c.name) e)
item-among a (b ∷ is) (inr k) = inr (item-among a is k)

-- an item whose value is paired with this id
pub record ItemFor {K : Type 0} (pair : Pairing) (is : List (Item Reference K Reference)) (j : ℕ) : Type 0 where
  pub item : Item Reference K Reference
  pub among : IsItem item is
  pub goes : pair item.entry.value j

item-for : {K : Type 0} (seen : Seen) (pair : Pairing) (is : List (Item Reference K Reference)) (es : List (Entry K)) (j : ℕ) → ArePairs seen pair is es → IsIn j (values_ids (pointers es))
    → ItemFor pair is j
item-for seen pair [] [] j p l = absurd l
item-for seen pair [] (e ∷ es) j p l = absurd p
item-for seen pair (a ∷ is) [] j p l = absurd l
item-for seen pair (a ∷ is) (e ∷ es) j p (inl same) = record { item = a; among = inl refl; goes = subst (pair a.entry.value) (sym same) p.1.0 }
item-for seen pair (a ∷ is) (e ∷ es) j p (inr l) = let f = item-for seen pair is es j p.2 l in record { item = f.item; among = inr f.among; goes = f.goes }

-- what is seen of an item's node
pub record ItemSeen (ks : Keys) (seen : Seen) (a : I ks) : Type 0 where
  pub it : Shown
  pub there : seen a.name it
  pub kind_is : it.kind ≡ kind.Node
  pub refs : length it.refs ≡ 4
  pub value : slot_of it 3 ≡ a.entry.value

pub item-seen : (ks : Keys) (seen : Seen) (t : Tree (I ks)) (a : I ks) → Stands (HasNode ks seen) t → IsItem a (items t) → ItemSeen ks seen a
item-seen ks seen leaf a s k = absurd k
item-seen ks seen (node l b r) a s k = elim (item-cases a (items l) (b ∷ items r) k) [
  | inl m ↦ item-seen ks seen l a s.1 m
  | inr (inl e) ↦
      let h = s.0 in
      record { it = h.it; there = subst (λ (c : I ks). seen c.name h.it) (sym e) h.there; kind_is = h.is.kind; refs = h.is.refs; value = h.is.value ∙ ap (λ (c : I ks). c.entry.value) (sym e) }
  | inr (inr m) ↦ item-seen ks seen r a s.2 m
]

-- The tree of a table has an item for each id to which the table refers.
pub record TreeFor (seen : Seen) (pair : Pairing) (table : Table) (nodes : List Reference) (it : Shown) (j : ℕ) : Type 0 where
  pub ks : Keys
  pub tree : Tree (I ks)
  pub keyed : IsKeyed ks table
  pub nodes_are : nodes ≡ names_of (items tree)
  pub root : link_of (slot_of it 0) ≡ root_of tree
  pub stands : Stands (HasNode ks seen) tree
  pub item : ItemFor pair (items tree) j

pub tree-for : (seen : Seen) (pair : Pairing) (m : Reference) (table : Table) (nodes : List Reference) (tab : IsTable seen pair m table nodes) (j : ℕ) → IsIn j (ids_in (Keyed table)) → TreeFor seen pair table nodes tab.it j
tree-for seen pair m table nodes tab j l = go table tab.has l
  where
    entries : (ks : Keys) (es : List (Entry (KeyOf ks))) (u : Table) → HasEntries ks seen pair tab.root es nodes → IsKeyed ks u → IsIn j (values_ids (pointers es)) → TreeFor seen pair u nodes tab.it j
    entries ks es u h keyed k = record {
      ks = ks;
      tree = h.tree;
      keyed = keyed;
      nodes_are = h.nodes_are;
      root = ap (λ (r : List Reference). link_of (get_or r 0 name.Nil)) tab.refs ∙ h.root_is;
      stands = h.stands;
      item = item-for seen pair (items h.tree) es j h.pairs k;
    }

    go : (u : Table) → HasNodes seen pair tab.root u nodes → IsIn j (ids_in (Keyed u)) → TreeFor seen pair u nodes tab.it j
    go without_keys h k = absurd k
    go (by_strings es) h k = entries keys.by_texts es (by_strings es) h tt k
    go (by_ints es) h k = entries keys.by_ints es (by_ints es) h tt k

-- the tree of a node among those of a table
pub record TreeAt (seen : Seen) (table : Table) (nodes : List Reference) (it : Shown) (m : Reference) : Type 0 where
  pub ks : Keys
  pub tree : Tree (I ks)
  pub keyed : IsKeyed ks table
  pub nodes_are : nodes ≡ names_of (items tree)
  pub root : link_of (slot_of it 0) ≡ root_of tree
  pub stands : Stands (HasNode ks seen) tree
  pub item : I ks
  pub among : IsItem item (items tree)
  pub name : item.name ≡ m

among-item : {K : Type 0} (is : List (Item Reference K Reference)) (m : Reference) → IsAmong m (names_of is) → (a : Item Reference K Reference) × IsItem a is × (a.name ≡ m)
among-item [] m k = absurd k
among-item (b ∷ is) m (inl e) = (b, inl refl, sym e)
among-item (b ∷ is) m (inr k) = let f = among-item is m k in (f.0, inr f.1, f.2)

pub tree-at : (seen : Seen) (pair : Pairing) (n m : Reference) (table : Table) (nodes : List Reference) (tab : IsTable seen pair n table nodes) → IsAmong m nodes → TreeAt seen table nodes tab.it m
tree-at seen pair n m table nodes tab k = go table tab.has
  where
    entries : (ks : Keys) (es : List (Entry (KeyOf ks))) (u : Table) → HasEntries ks seen pair tab.root es nodes → IsKeyed ks u → TreeAt seen u nodes tab.it m
    entries ks es u h keyed =
        let a = among-item (items h.tree) m (subst (IsAmong m) h.nodes_are k) in
        record {
          ks = ks;
          tree = h.tree;
          keyed = keyed;
          nodes_are = h.nodes_are;
          root = ap (λ (r : List Reference). link_of (get_or r 0 name.Nil)) tab.refs ∙ h.root_is;
          stands = h.stands;
          item = a.0;
          among = a.1;
          name = a.2;
        }

    go : (u : Table) → HasNodes seen pair tab.root u nodes → TreeAt seen u nodes tab.it m
    go without_keys h = absurd (subst (IsAmong m) h.1 k)
    go (by_strings es) h = entries keys.by_texts es (by_strings es) h tt
    go (by_ints es) h = entries keys.by_ints es (by_ints es) h tt
