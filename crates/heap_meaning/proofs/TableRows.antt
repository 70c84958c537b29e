-- Worked tables of ints with the keys 3, 5 and 8, whose root is 5. Where another height stands in the root, where all is to the right, where the words tell
-- another number of entries, or where the keys don't rise, nothing that is seen is such a table; and no node belongs to two.
use Rattle.std.proofs.Common.{inl, inr, ◌⊎◌, ◌≡◌, ◌≢◌, ℕ, List, [], ◌∷◌, length, refl, sym, ◌∙◌, ap, subst, arith, pos, Bool, Option, Some, None, nat_eq, if◌then◌else◌}
use Rattle.std.specs.Prelude.{ℤ}
use Rattle.std.specs.Ordering.{int_cmp}
use Rattle.proc_values.specs.obj_layout.declared.kind.Kind.TheVariants as kind
use Rattle.proc_values.specs.obj_layout.declared.reference.Reference.{Reference}
use Rattle.proc_values.specs.obj_layout.declared.reference.Reference.TheVariants.{Nil, Pid, Local}
use Rattle.proc_values.specs.swizzle.Joint.{Shown}
use Rattle.proc_values.specs.ps_heap.Tables.{Entry, Table, without_keys, by_ints, by_strings, cardinality}
use Rattle.proc_values.specs.ps_heap.Objects.{Heap, Keyed, object_at}
use Rattle.heap_ops.specs.heap_places.Words.{int_in}
use Rattle.node_rows.specs.avl_trees.Trees.{Tree, leaf, node, height, items, IsBalanced}
use Rattle.node_rows.specs.avl_trees.Standing.{root_of, Stands as TreeStands}
use Rattle.node_rows.specs.Keys.{by_ints as int_keys}
use Rattle.node_rows.specs.Nodes.{I, IsAmong, HasNode, link_of}
use Rattle.heap_meaning.specs.Standing.{Seen, Pairing, IsPointed, IsOne}
use Rattle.heap_meaning.specs.Tables.{key_kind, HasEntries, HasNodes, IsTable, TablesStand}
use Rattle.heap_meaning.proofs.TreeLaws.{nil-leaf, sides-of, root-among, entries-rise}

-- What is seen: objects under PIDs.

record Named : Type 0 where
  pid : ℕ
  it : Shown

abbrev found : List Named → ℕ → Option Shown
found [] n = None
found (x ∷ more) n = if nat_eq x.pid n then Some x.it else found more n

abbrev seen_in : List Named → Seen
seen_in rows (Pid n) it = found rows n ≡ Some it
seen_in rows n it = ⊥

one : (rows : List Named) → IsOne (seen_in rows)
one rows (Pid n) a b s t = let both : Some a ≡ Some b = sym s ∙ t in cc
one rows Nil a b s t = absurd s
one rows (Local at) a b s t = absurd s

-- a table with so many entries; a node; and a table without keys, which is under each key
abbrev table_shown : Reference → ℕ → Shown
table_shown root count = record { kind = kind.Table; refs = root ∷ []; nums = 1 ∷ 2 ∷ count ∷ []; bytes = 0 }

abbrev node_shown : Reference → Reference → ℕ → ℕ → Shown
node_shown left right key high = record { kind = kind.Node; refs = left ∷ right ∷ Nil ∷ Pid 42 ∷ []; nums = 0 ∷ key ∷ high ∷ []; bytes = 0 }

abbrev empty_shown : Shown
empty_shown = record { kind = kind.Table; refs = Nil ∷ []; nums = 1 ∷ 0 ∷ 0 ∷ []; bytes = 0 }

-- 5 over 3 and 8
abbrev three : ℕ → ℕ → List Named
three count high =
    record { pid = 1; it = table_shown (Pid 5) count } ∷ record { pid = 5; it = node_shown (Pid 3) (Pid 8) 5 high } ∷ record { pid = 3; it = node_shown Nil Nil 3 1 }
    ∷ record { pid = 8; it = node_shown Nil Nil 8 1 } ∷ record { pid = 42; it = empty_shown } ∷ []

abbrev pair : Pairing
pair n id = ((n ≡ Pid 1) × (id ≡ 0)) ⊎ ((n ≡ Pid 42) × (id ≡ 1))

abbrev item : ℕ → I int_keys
item n = record { name = Pid n; entry = record { key = pos n; value = Pid 42 } }

abbrev under_key : ℕ → Entry ℤ
under_key n = record { key = pos n; object = 1 }

some-name : Pid 42 ≢ Nil
some-name e = cc

three_keys : IsTable (seen_in (three 3 2)) pair (Pid 1) (by_ints (under_key 3 ∷ under_key 5 ∷ under_key 8 ∷ [])) (Pid 3 ∷ Pid 5 ∷ Pid 8 ∷ [])
unfolding int_in cardinality
three_keys = record {
  it = table_shown (Pid 5) 3;
  there = refl;
  kind_is = refl;
  root = Pid 5;
  home = 1;
  refs = refl;
  nums = refl;
  has = record {
    tree = node (node leaf (item 3) leaf) (item 5) (node leaf (item 8) leaf);
    root_is = refl;
    stands = (
      record { it = node_shown (Pid 3) (Pid 8) 5 2; there = refl; is = record { kind = refl; refs = refl; nums = refl; left = refl; right = refl; key = refl; value = refl; height = refl } },
      (record { it = node_shown Nil Nil 3 1; there = refl; is = record { kind = refl; refs = refl; nums = refl; left = refl; right = refl; key = refl; value = refl; height = refl } }, tt, tt),
      (record { it = node_shown Nil Nil 8 1; there = refl; is = record { kind = refl; refs = refl; nums = refl; left = refl; right = refl; key = refl; value = refl; height = refl } }, tt, tt),
    );
    rising = ((refl, (refl, tt)), ((refl, tt), (tt, tt)));
    balanced = ((tt, tt, (omega arith, omega arith)), (tt, tt, (omega arith, omega arith)), (omega arith, omega arith));
    values = (some-name, (some-name, (some-name, tt)));
    pairs = (refl, named, (refl, named, (refl, named, tt)));
    nodes_are = refl;
  };
}
  where
    named : pair (Pid 42) 1 × IsPointed (seen_in (three 3 2)) (Pid 42)
    named = (inr (refl, refl), inr (record { it = empty_shown; there = refl; kind_is = refl }))

-- What the words of the table tell: its keys are ints, and how many entries it has.

record Told (seen : Seen) (pair : Pairing) (root : Reference) (count : ℕ) (nodes : List Reference) : Type 0 where
  entries : List (Entry ℤ)
  many : count ≡ length entries
  has : HasEntries int_keys seen pair root entries nodes

told : (rows : List Named) (pair : Pairing) (n : ℕ) (root : Reference) (count : ℕ) (of : Table) (nodes : List Reference) → found rows n ≡ Some (table_shown root count)
    → IsTable (seen_in rows) pair (Pid n) of nodes → Told (seen_in rows) pair root count nodes
unfolding cardinality
told rows pair n root count of nodes there is = by of is.nums is.has
  where
    same : is.it ≡ table_shown root count
    same = one rows (Pid n) is.it (table_shown root count) is.there there

    by : (of : Table) → is.it.nums ≡ is.home ∷ key_kind of ∷ cardinality of ∷ [] → HasNodes (seen_in rows) pair is.root of nodes → Told (seen_in rows) pair root count nodes
    by without_keys nums has = let words : 1 ∷ 2 ∷ count ∷ [] ≡ is.home ∷ 0 ∷ 0 ∷ [] = sym (ap (λ (it : Shown). it.nums) same) ∙ nums in absurd (cc)
    by (by_strings es) nums has = let words : 1 ∷ 2 ∷ count ∷ [] ≡ is.home ∷ 1 ∷ length es ∷ [] = sym (ap (λ (it : Shown). it.nums) same) ∙ nums in absurd (cc)
    by (by_ints es) nums has =
        let words : 1 ∷ 2 ∷ count ∷ [] ≡ is.home ∷ 2 ∷ length es ∷ [] = sym (ap (λ (it : Shown). it.nums) same) ∙ nums in
        let refs : root ∷ [] ≡ is.root ∷ [] = sym (ap (λ (it : Shown). it.refs) same) ∙ is.refs in
        let here : is.root ≡ root = cc in
        let many : count ≡ length es = cc in
        record { entries = es; many = many; has = subst (λ (m : Reference). HasEntries int_keys (seen_in rows) pair m es nodes) here has }

-- Another height of the root.
another_height : (pair : Pairing) (of : Table) (nodes : List Reference) → IsTable (seen_in (three 3 3)) pair (Pid 1) of nodes → ⊥
another_height pair of nodes is =
    let seen = seen_in (three 3 3) in
    let has = (told (three 3 3) pair 1 (Pid 5) 3 of nodes refl is).has in
    let sides = sides-of int_keys seen 5 (node_shown (Pid 3) (Pid 8) 5 3) has.tree (one (three 3 3)) refl has.root_is has.stands in
    let left = (sides-of int_keys seen 3 (node_shown Nil Nil 3 1) sides.l (one (three 3 3)) refl sides.left_is sides.on_left).high_is in
    let right = (sides-of int_keys seen 8 (node_shown Nil Nil 8 1) sides.r (one (three 3 3)) refl sides.right_is sides.on_right).high_is in
    let high : 3 ≡ height (node sides.l sides.item sides.r) = sides.high_is ∙ ap height sides.tree_is in
    absurd (omega (arith, left, right, high))

-- All to the right: 3, with 5 to its right, with 8 to its right. Each height is that of its tree, but the sides of 3 differ by two.
abbrev leaning : List Named
leaning =
    record { pid = 1; it = table_shown (Pid 3) 3 } ∷ record { pid = 3; it = node_shown Nil (Pid 5) 3 3 } ∷ record { pid = 5; it = node_shown Nil (Pid 8) 5 2 }
    ∷ record { pid = 8; it = node_shown Nil Nil 8 1 } ∷ record { pid = 42; it = empty_shown } ∷ []

all_to_the_right : (pair : Pairing) (of : Table) (nodes : List Reference) → IsTable (seen_in leaning) pair (Pid 1) of nodes → ⊥
all_to_the_right pair of nodes is =
    let has = (told leaning pair 1 (Pid 3) 3 of nodes refl is).has in
    let sides = sides-of int_keys (seen_in leaning) 3 (node_shown Nil (Pid 5) 3 3) has.tree (one leaning) refl has.root_is has.stands in
    let left = ap height (nil-leaf int_keys sides.l sides.left_is) in
    let right = (sides-of int_keys (seen_in leaning) 5 (node_shown Nil (Pid 8) 5 2) sides.r (one leaning) refl sides.right_is sides.on_right).high_is in
    let balanced = subst IsBalanced sides.tree_is has.balanced in
    absurd (omega (arith, left, right, balanced.2.0, balanced.2.1))

-- Another number of entries than the table has.
another_count : (nodes : List Reference) → IsTable (seen_in (three 4 2)) pair (Pid 1) (by_ints (under_key 3 ∷ under_key 5 ∷ under_key 8 ∷ [])) nodes → ⊥
unfolding cardinality
another_count nodes is =
    let same = one (three 4 2) (Pid 1) is.it (table_shown (Pid 5) 4) is.there refl in
    let words : 1 ∷ 2 ∷ 4 ∷ [] ≡ is.home ∷ 2 ∷ 3 ∷ [] = sym (ap (λ (it : Shown). it.nums) same) ∙ is.nums in
    let four : ◌≡◌ {A = ℕ} 4 3 = cc in
    absurd (omega arith)

-- The keys in another order.
another_order : (nodes : List Reference) → IsTable (seen_in (three 3 2)) pair (Pid 1) (by_ints (under_key 5 ∷ under_key 3 ∷ under_key 8 ∷ [])) nodes → ⊥
another_order nodes is =
    let has = is.has in
    let rise = entries-rise int_cmp (seen_in (three 3 2)) pair (items has.tree) (under_key 5 ∷ under_key 3 ∷ under_key 8 ∷ []) has.rising has.pairs in
    let below = rise.0.0 in
    absurd (cc)

-- A second table whose root is that of the first.
abbrev shared : List Named
shared =
    record { pid = 1; it = table_shown (Pid 5) 1 } ∷ record { pid = 2; it = table_shown (Pid 5) 1 } ∷ record { pid = 5; it = node_shown Nil Nil 5 1 }
    ∷ record { pid = 42; it = empty_shown } ∷ []

a_node_of_two_tables : (heap : Heap) (pair : Pairing) (a b : Table) (i j : ℕ) → i ≢ j → pair (Pid 1) i → pair (Pid 2) j → object_at heap i ≡ Some (Keyed a) → object_at heap j ≡ Some (Keyed b)
    → TablesStand (seen_in shared) heap pair → ⊥
a_node_of_two_tables heap pair a b i j ne p q first second t =
    let x = (told shared pair 1 (Pid 5) 1 a (t.nodes i) refl (t.each (Pid 1) i a p first)).has in
    let y = (told shared pair 2 (Pid 5) 1 b (t.nodes j) refl (t.each (Pid 2) j b q second)).has in
    let mine : IsAmong (Pid 5) (t.nodes i) = subst (IsAmong (Pid 5)) (sym x.nodes_are) (root-among int_keys x.tree (Pid 5) x.root_is refl) in
    let also : IsAmong (Pid 5) (t.nodes j) = subst (IsAmong (Pid 5)) (sym y.nodes_are) (root-among int_keys y.tree (Pid 5) y.root_is refl) in
    ne (t.apart i j (Pid 5) mine also)
