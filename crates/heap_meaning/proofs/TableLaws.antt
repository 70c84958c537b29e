-- Tables that stand for those of the heap go through readings, writes and new objects.
use Rattle.std.proofs.Common.{inl, inr, ◌⊎◌, ◌≡◌, ◌≢◌, ℕ, List, [], ◌∷◌, ◌++◌, length, refl, sym, ap, ◌∙◌, subst, Some, None, Bool, true, false, nat_eq, if◌then◌else◌}
use Rattle.std.proofs.lemmas.Bool.{cases_eq, eq-eqb, ne_eqb, eqb-true, eqb-false}
use Rattle.proc_values.specs.obj_layout.declared.kind.Kind.{Kind}
use Rattle.proc_values.specs.obj_layout.declared.kind.Kind.TheVariants as kind
use Rattle.proc_values.specs.obj_layout.declared.reference.Reference.{Reference}
use Rattle.proc_values.specs.obj_layout.declared.reference.Reference.TheVariants as name
use Rattle.proc_values.specs.swizzle.Joint.{Shown}
use Rattle.proc_values.specs.swizzle.Changes.{Within}
use Rattle.proc_values.specs.ps_heap.Values.{Pointer}
use Rattle.proc_values.specs.ps_heap.Tables.{Entry, Table, without_keys, by_strings, by_ints, cardinality}
use Rattle.proc_values.specs.ps_heap.Objects.{Heap, Object, Structure, Elements, Scope, Keyed, object_at, with_object, with_new, new_number}
use Rattle.heap_ops.specs.heap_places.Shapes.{slot_of}
use Rattle.node_rows.specs.avl_trees.Trees.{Tree, leaf, node, items}
use Rattle.node_rows.specs.avl_trees.Standing.{Item, row_of, Stands as TreeStands}
use Rattle.node_rows.specs.Keys.{Keys, by_ints as int_keys, by_texts as text_keys, KeyOf, IsKey}
use Rattle.node_rows.specs.Nodes.{Seat, I, IsAmong, HasNode}
use Rattle.heap_meaning.specs.Tables.{ArePairs, names_of, HasEntries, HasNodes, IsTable, TablesStand, IsNewTable}
use Rattle.heap_meaning.specs.Standing.{Seen, Pairing, IsKindOf, IsLike, IsPlain, Stands, IsOne, with_pair}
use Rattle.heap_meaning.proofs.StandingLaws.{Fixed, Kinds, Pairs, fixed-text, kind-more, stands-more, object-set, object-set_other, object-last, object-before, object-none}

-- objects of tables: tables, and their nodes
abbrev pub IsOfTable : Kind → Type 0
IsOfTable kind.Table = Unit {0}
IsOfTable kind.Node = Unit {0}
IsOfTable _ = ⊥

-- every such object that is seen stays
abbrev pub TablesStay : Seen → Seen → Type 0
TablesStay seen now = (n : Reference) (it : Shown) → IsOfTable it.kind → seen n it → now n it

-- what is like an object that is no table isn't of one
pub is-plain : (seen : Seen) (pair : Pairing) (it : Shown) (object : Object) → IsPlain object → IsLike seen pair it object → IsOfTable it.kind → ⊥
is-plain seen pair it (Structure class fields) plain l = subst IsOfTable l.kind_is
is-plain seen pair it (Elements ty low elements) plain l = subst IsOfTable l.rows.kind_is
is-plain seen pair it (Scope text parent names) plain l = subst IsOfTable l.kind_is
is-plain seen pair it (Keyed table) plain l = absurd plain

-- no object of the heap is a node
pub no-node : (seen : Seen) (pair : Pairing) (it : Shown) (object : Object) → IsLike seen pair it object → it.kind ≢ kind.Node
no-node seen pair it (Structure class fields) l e = let bad : kind.Structure ≡ kind.Node = sym l.kind_is ∙ e in absurd (cc)
no-node seen pair it (Elements ty low elements) l e = let bad : kind.Vector ≡ kind.Node = sym l.rows.kind_is ∙ e in absurd (cc)
no-node seen pair it (Scope text parent names) l e = let bad : kind.Scope ≡ kind.Node = sym l.kind_is ∙ e in absurd (cc)
no-node seen pair it (Keyed table) l e = let bad : kind.Table ≡ kind.Node = sym l ∙ e in absurd (cc)

-- One table.

pub among-front : {K : Type 0} (xs ys : List (Item Reference K Reference)) (n : Reference) → IsAmong n (names_of xs) → IsAmong n (names_of (xs ++ ys))
among-front [] ys n a = absurd a
among-front (x ∷ xs) ys n a = elim a [ inl e ↦ inl e | inr b ↦ inr (among-front xs ys n b) ]

pub among-back : {K : Type 0} (xs ys : List (Item Reference K Reference)) (n : Reference) → IsAmong n (names_of ys) → IsAmong n (names_of (xs ++ ys))
among-back [] ys n a = a
among-back (x ∷ xs) ys n a = inr (among-back xs ys n a)

-- a name among those of two lists is one of the first or one of the second
among-cases : {K : Type 0} (xs ys : List (Item Reference K Reference)) (n : Reference) → IsAmong n (names_of (xs ++ ys)) → IsAmong n (names_of xs) ⊎ IsAmong n (names_of ys)
among-cases [] ys n a = inr a
among-cases (x ∷ xs) ys n a = elim a [ inl e ↦ inl (inl e) | inr b ↦ elim (among-cases xs ys n b) [ inl c ↦ inl (inr c) | inr c ↦ inr c ] ]

-- the nodes of these names that are seen stay
abbrev pub NodesStay : Seen → Seen → List Reference → Type 0
NodesStay seen now names = (n : Reference) (it : Shown) → IsAmong n names → it.kind ≡ kind.Node → seen n it → now n it

pub key-more : (ks : Keys) (seen now : Seen) (it : Shown) (key : KeyOf ks) → Fixed seen now → IsKey ks seen it key → IsKey ks now it key
key-more int_keys seen now it key fixed k = k
key-more text_keys seen now it key fixed k = fixed-text seen now (slot_of it 2) key fixed k

node-more : (ks : Keys) (seen now : Seen) (n : Reference) (row : Seat ks) → Fixed seen now → ((it : Shown) → it.kind ≡ kind.Node → seen n it → now n it) → HasNode ks seen n row → HasNode ks now n row
node-more ks seen now n row fixed stays h = record {
  it = h.it;
  there = stays h.it h.is.kind h.there;
  is = record {
    kind = h.is.kind;
    refs = h.is.refs;
    nums = h.is.nums;
    left = h.is.left;
    right = h.is.right;
    key = key-more ks seen now h.it row.entry.key fixed h.is.key;
    value = h.is.value;
    height = h.is.height;
  };
}

tree-more : (ks : Keys) (seen now : Seen) (t : Tree (I ks)) → Fixed seen now → NodesStay seen now (names_of (items t)) → TreeStands (HasNode ks seen) t → TreeStands (HasNode ks now) t
tree-more ks seen now leaf fixed stays s = tt
tree-more ks seen now (node l a r) fixed stays s = (
  node-more ks seen now a.name (row_of l a r) fixed (λ it k j. stays a.name it (among-back (items l) (a ∷ items r) a.name (inl refl)) k j) s.0,
  tree-more ks seen now l fixed (λ n it m k j. stays n it (among-front (items l) (a ∷ items r) n m) k j) s.1,
  tree-more ks seen now r fixed (λ n it m k j. stays n it (among-back (items l) (a ∷ items r) n (inr m)) k j) s.2,
)

pub pairs-more : {K : Type 0} (seen now : Seen) (pair more : Pairing) (is : List (Item Reference K Reference)) (es : List (Entry K)) → Fixed seen now → Kinds seen now → Pairs pair more
    → ArePairs seen pair is es → ArePairs now more is es
pairs-more seen now pair more [] [] fixed kinds pairs p = tt
pairs-more seen now pair more (a ∷ is) (e ∷ es) fixed kinds pairs p =
    (p.0, stands-more seen now pair more a.entry.value (Pointer e.object) fixed kinds pairs p.1, pairs-more seen now pair more is es fixed kinds pairs p.2)
pairs-more seen now pair more [] (e ∷ es) fixed kinds pairs p = absurd p
pairs-more seen now pair more (a ∷ is) [] fixed kinds pairs p = absurd p

entries-more : (ks : Keys) (seen now : Seen) (pair more : Pairing) (root : Reference) (es : List (Entry (KeyOf ks))) (names : List Reference) → Fixed seen now → Kinds seen now → Pairs pair more
    → NodesStay seen now names → HasEntries ks seen pair root es names → HasEntries ks now more root es names
entries-more ks seen now pair more root es names fixed kinds pairs stays h = record {
  tree = h.tree;
  root_is = h.root_is;
  stands = tree-more ks seen now h.tree fixed (subst (NodesStay seen now) h.nodes_are stays) h.stands;
  rising = h.rising;
  balanced = h.balanced;
  values = h.values;
  pairs = pairs-more seen now pair more (items h.tree) es fixed kinds pairs h.pairs;
  nodes_are = h.nodes_are;
}

nodes-more : (seen now : Seen) (pair more : Pairing) (root : Reference) (table : Table) (names : List Reference) → Fixed seen now → Kinds seen now → Pairs pair more
    → NodesStay seen now names → HasNodes seen pair root table names → HasNodes now more root table names
nodes-more seen now pair more root without_keys names fixed kinds pairs stays h = h
nodes-more seen now pair more root (by_strings es) names fixed kinds pairs stays h = entries-more text_keys seen now pair more root es names fixed kinds pairs stays h
nodes-more seen now pair more root (by_ints es) names fixed kinds pairs stays h = entries-more int_keys seen now pair more root es names fixed kinds pairs stays h

pub table-more : (seen now : Seen) (pair more : Pairing) (n : Reference) (table : Table) (names : List Reference) → Fixed seen now → Kinds seen now → Pairs pair more
    → ((it : Shown) → it.kind ≡ kind.Table → seen n it → now n it) → NodesStay seen now names → IsTable seen pair n table names → IsTable now more n table names
table-more seen now pair more n table names fixed kinds pairs here stays t = record {
  it = t.it;
  there = here t.it t.kind_is t.there;
  kind_is = t.kind_is;
  root = t.root;
  home = t.home;
  refs = t.refs;
  nums = t.nums;
  has = nodes-more seen now pair more t.root table names fixed kinds pairs stays t.has;
}

-- the names of a tree's nodes are those of nodes
tree-nodes : (ks : Keys) (seen : Seen) (t : Tree (I ks)) (n : Reference) → TreeStands (HasNode ks seen) t → IsAmong n (names_of (items t)) → IsKindOf seen n kind.Node
tree-nodes ks seen leaf n s a = absurd a
tree-nodes ks seen (node l b r) n s a = elim (among-cases (items l) (b ∷ items r) n a) [
  | inl on_left ↦ tree-nodes ks seen l n s.1 on_left
  | inr c ↦ elim c [
    | inl e ↦ subst (λ (m : Reference). IsKindOf seen m kind.Node) (sym e) (record { it = s.0.it; there = s.0.there; kind_is = s.0.is.kind })
    | inr on_right ↦ tree-nodes ks seen r n s.2 on_right
  ]
]

pub table-nodes : (seen : Seen) (pair : Pairing) (m : Reference) (table : Table) (names : List Reference) (n : Reference) → IsTable seen pair m table names → IsAmong n names → IsKindOf seen n kind.Node
table-nodes seen pair m table names n t a = of table t.has
  where
    among : (ks : Keys) (es : List (Entry (KeyOf ks))) → HasEntries ks seen pair t.root es names → IsKindOf seen n kind.Node
    among ks es h = tree-nodes ks seen h.tree n h.stands (subst (IsAmong n) h.nodes_are a)

    of : (u : Table) → HasNodes seen pair t.root u names → IsKindOf seen n kind.Node
    of without_keys h = absurd (subst (IsAmong n) h.1 a)
    of (by_strings es) h = among text_keys es h
    of (by_ints es) h = among int_keys es h

-- a new table
new-table : (seen : Seen) (pair : Pairing) (n : Reference) (it : Shown) (table : Table) → seen n it → it.kind ≡ kind.Table → IsNewTable it (Keyed table) → IsTable seen pair n table []
unfolding cardinality
new-table seen pair n it without_keys there is new =
    record { it = it; there = there; kind_is = is; root = name.Nil; home = new.1; refs = new.0; nums = new.2; has = (refl, refl) }
new-table seen pair n it (by_strings es) there is new = absurd new
new-table seen pair n it (by_ints es) there is new = absurd new

-- All tables.

pub tables-within : (seen now : Seen) (heap : Heap) (pair : Pairing) → Within seen now → TablesStand seen heap pair → TablesStand now heap pair
tables-within seen now heap pair grows t =
    let fixed : Fixed seen now = λ m it k j. grows m it j in
    let kinds : Kinds seen now = λ m it j. record { it = it; there = grows m it j; kind_is = refl } in
    record {
      nodes = t.nodes;
      each = λ n id table p is. table-more seen now pair pair n table (t.nodes id) fixed kinds (λ m i q. q) (λ it k j. grows n it j) (λ m it a k j. grows m it j) (t.each n id table p is);
      are_nodes = λ id n a. kind-more seen now n kind.Node kinds (t.are_nodes id n a);
      apart = t.apart;
    }

-- pairings that pair the same
pub tables-same : (seen : Seen) (heap : Heap) (pair other : Pairing) → Pairs pair other → Pairs other pair → TablesStand seen heap pair → TablesStand seen heap other
tables-same seen heap pair other there back t = record {
  nodes = t.nodes;
  each = λ n id table p is.
      table-more seen seen pair other n table (t.nodes id) (λ m it k j. j) (λ m it j. record { it = it; there = j; kind_is = refl }) there (λ it k j. j) (λ m it a k j. j)
      (t.each n id table (back n id p) is);
  are_nodes = t.are_nodes;
  apart = t.apart;
}

one-table : (object : Object) (table : Table) → Some object ≡ Some (Keyed table) → object ≡ Keyed table
one-table object table e = cc

-- Another object was written, which is no table.
pub tables-written : (seen now : Seen) (heap : Heap) (pair : Pairing) (id : ℕ) (old object : Object) → IsPlain object → object_at heap id ≡ Some old → Fixed seen now → Kinds seen now → TablesStay seen now
    → TablesStand seen heap pair → TablesStand now (with_object heap id object) pair
tables-written seen now heap pair id old object plain was fixed kinds stay t = record {
  nodes = t.nodes;
  each = λ n i table p is. elim (cases_eq i id) [
    | inl same ↦
        let e = one-table object table (sym (ap (object_at (with_object heap id object)) same ∙ object-set heap id old object was) ∙ is) in
        absurd (subst IsPlain e plain)
    | inr apart ↦
        table-more seen now pair pair n table (t.nodes i) fixed kinds (λ m j q. q) (λ it k j. stay n it (subst IsOfTable (sym k) tt) j)
        (λ m it a k j. stay m it (subst IsOfTable (sym k) tt) j) (t.each n i table p (sym (object-set_other heap id i object apart) ∙ is))
  ];
  are_nodes = λ i n a. kind-more seen now n kind.Node kinds (t.are_nodes i n a);
  apart = t.apart;
}

-- other nodes for a number
nodes_with : (ℕ → List Reference) → ℕ → List Reference → ℕ → List Reference
nodes_with nodes id names i = if nat_eq i id then names else nodes i

with-here : (nodes : ℕ → List Reference) (id i : ℕ) (names : List Reference) → i ≡ id → nodes_with nodes id names i ≡ names
unfolding nodes_with
with-here nodes id i names e = ap (λ (b : Bool). if b then names else nodes i) (eq-eqb i id e)

with-other : (nodes : ℕ → List Reference) (id i : ℕ) (names : List Reference) → i ≢ id → nodes_with nodes id names i ≡ nodes i
unfolding nodes_with
with-other nodes id i names ne = ap (λ (b : Bool). if b then names else nodes i) (ne_eqb i id ne)

-- a name among the nodes of a number
with-cases : (nodes : ℕ → List Reference) (id i : ℕ) (names : List Reference) (n : Reference) → IsAmong n (nodes_with nodes id names i) → ((i ≡ id) × IsAmong n names) ⊎ ((i ≢ id) × IsAmong n (nodes i))
with-cases nodes id i names n a = elim (cases_eq i id) [
  | inl same ↦ inl (same, subst (IsAmong n) (with-here nodes id i names same) a)
  | inr apart ↦ inr (apart, subst (IsAmong n) (with-other nodes id i names apart) a)
]

-- An object was made, which may be a new table.
pub tables-made : (seen now : Seen) (heap : Heap) (pair : Pairing) (n : Reference) (new : Shown) (object : Object) → Stands seen heap pair → Within seen now → now n new
    → IsLike now (with_pair pair n (new_number heap)) new object → IsNewTable new object → TablesStand now (with_new heap object) (with_pair pair n (new_number heap))
tables-made seen now heap pair n new object s grows there like blank =
    let more = with_pair pair n (new_number heap) in
    let t = s.tables in
    let id = new_number heap in
    let fixed : Fixed seen now = λ m it k j. grows m it j in
    let kinds : Kinds seen now = λ m it j. record { it = it; there = grows m it j; kind_is = refl } in
    record {
      nodes = nodes_with t.nodes id [];
      each = λ m i table q is. elim q [
        | inl p ↦
            let b = s.both m i p in
            let was : object_at heap i ≡ Some (Keyed table) = b.means ∙ sym (object-before heap object b.object i b.means) ∙ is in
            let apart : i ≢ id = λ e. none_some (sym (object-none heap) ∙ ap (object_at heap) (sym e) ∙ was) in
            subst (IsTable now more m table) (sym (with-other t.nodes id i [] apart))
            (table-more seen now pair more m table (t.nodes i) fixed kinds (λ k j w. inl w) (λ it k j. grows m it j) (λ k it a w j. grows k it j) (t.each m i table p was))
        | inr e ↦
            let is_new = one-table object table (sym (object-last heap object) ∙ ap (object_at (with_new heap object)) (sym e.1) ∙ is) in
            subst (IsTable now more m table) (sym (with-here t.nodes id i [] e.1))
            (subst (λ (k : Reference). IsTable now more k table []) (sym e.0)
            (new-table now more n new table there (subst (IsLike now more new) is_new like) (subst (IsNewTable new) is_new blank)))
      ];
      are_nodes = λ i m a. elim (with-cases t.nodes id i [] m a) [ inl here ↦ absurd here.1 | inr other ↦ kind-more seen now m kind.Node kinds (t.are_nodes i m other.1) ];
      apart = λ i j m a b. elim (with-cases t.nodes id i [] m a) [
        | inl here ↦ absurd here.1
        | inr x ↦ elim (with-cases t.nodes id j [] m b) [ inl here ↦ absurd here.1 | inr y ↦ t.apart i j m x.1 y.1 ]
      ];
    }
  where
    none_some : {o : Object} → None ≡ Some o → ⊥
    none_some e = cc

-- A table was written, with its nodes.
pub tables-entered : (seen now : Seen) (heap : Heap) (pair : Pairing) (n : Reference) (id : ℕ) (old table : Table) (after : List Reference) → IsOne seen → (s : Stands seen heap pair) → pair n id
    → object_at heap id ≡ Some (Keyed old) → Fixed seen now → Kinds seen now
    → ((m : Reference) (it : Shown) → m ≢ n → (IsAmong m (s.tables.nodes id) → ⊥) → seen m it → now m it)
    → IsTable now pair n table after → ((m : Reference) → IsAmong m after → IsAmong m (s.tables.nodes id) ⊎ ((it : Shown) → seen m it → ⊥))
    → TablesStand now (with_object heap id (Keyed table)) pair
tables-entered seen now heap pair n id old table after one s p was fixed kinds others is fresh = record {
  nodes = nodes_with t.nodes id after;
  each = λ m i u q at. elim (cases_eq i id) [
    | inl same ↦
        let e = one-table (Keyed table) u (sym (ap (object_at (with_object heap id (Keyed table))) same ∙ object-set heap id (Keyed old) (Keyed table) was) ∙ at) in
        let one_table : table ≡ u = cc in
        let named : n ≡ m = s.one_name n m i (subst (λ (k : ℕ). pair n k) (sym same) p) q in
        subst (IsTable now pair m u) (sym (with-here t.nodes id i after same))
        (subst (λ (v : Table). IsTable now pair m v after) one_table (subst (λ (k : Reference). IsTable now pair k table after) named is))
    | inr apart ↦
        let before : object_at heap i ≡ Some (Keyed u) = sym (object-set_other heap id i (Keyed table) apart) ∙ at in
        let ne : m ≢ n = λ e. apart (s.one_number n i id (subst (λ (k : Reference). pair k i) e q) p) in
        subst (IsTable now pair m u) (sym (with-other t.nodes id i after apart))
        (table-more seen now pair pair m u (t.nodes i) fixed kinds (λ k j w. w) (λ it k j. others m it ne (λ a. table_node m it k j a) j)
        (λ k it a w j. others k it (λ e. node_table it w (subst (λ (r : Reference). seen r it) e j)) (λ b. apart (t.apart i id k a b)) j) (t.each m i u q before))
  ];
  are_nodes = λ i m a. elim (with-cases t.nodes id i after m a) [
    | inl here ↦ table-nodes now pair n table after m is here.1
    | inr other ↦ kind-more seen now m kind.Node kinds (t.are_nodes i m other.1)
  ];
  apart = λ i j m a b. elim (with-cases t.nodes id i after m a) [
    | inl x ↦ elim (with-cases t.nodes id j after m b) [
      | inl y ↦ x.0 ∙ sym y.0
      | inr y ↦ elim (fresh m x.1) [ inl mine ↦ x.0 ∙ t.apart id j m mine y.1 | inr new ↦ absurd (unseen m j y.1 new) ]
    ]
    | inr x ↦ elim (with-cases t.nodes id j after m b) [
      | inl y ↦ elim (fresh m y.1) [ inl mine ↦ t.apart i id m x.1 mine ∙ sym y.0 | inr new ↦ absurd (unseen m i x.1 new) ]
      | inr y ↦ t.apart i j m x.1 y.1
    ]
  ];
}
  where
    t : TablesStand seen heap pair
    t = s.tables

    unseen : (m : Reference) (i : ℕ) → IsAmong m (t.nodes i) → ((it : Shown) → seen m it → ⊥) → ⊥
    unseen m i a none = let k = t.are_nodes i m a in none k.it k.there

    -- a table is no node
    table_node : (m : Reference) (it : Shown) → it.kind ≡ kind.Table → seen m it → IsAmong m (t.nodes id) → ⊥
    table_node m it k j a =
        let o = t.are_nodes id m a in
        let bad : kind.Table ≡ kind.Node = sym k ∙ ap (λ (x : Shown). x.kind) (one m it o.it j o.there) ∙ o.kind_is in
        absurd (cc)

    node_table : (it : Shown) → it.kind ≡ kind.Node → seen n it → ⊥
    node_table it k j =
        let mine = t.each n id old p was in
        let bad : kind.Node ≡ kind.Table = sym k ∙ ap (λ (x : Shown). x.kind) (one n it mine.it j mine.there) ∙ mine.kind_is in
        absurd (cc)
