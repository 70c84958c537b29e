-- Worked tables of ints. One with the keys 3, 5 and 8 has a tree whose root is 5; one has the keys -1 and 5. Their entries stand in the order of their
-- keys, and in no other. A space in which the root of such a tree has another height stands for no heap, and neither does one in which all is to the right.
use Rattle.std.proofs.Common.{◌≡◌, ◌≢◌, inl, inr, ℕ, List, [], ◌∷◌, refl, sym, ◌∙◌, ap, subst, arith, pos, Option, Some, None}
use Rattle.std.specs.Prelude.{negsuc, ℤ}
use Rattle.std.specs.Ordering.{int_cmp}
use Rattle.heap_meaning.specs.obj_layout.declared.kind.Kind.TheVariants as kind
use Rattle.heap_meaning.specs.obj_layout.declared.reference.Reference.{Reference}
use Rattle.heap_meaning.specs.obj_layout.declared.reference.Reference.TheVariants.{Nil, Pid}
use Rattle.heap_meaning.specs.obj_layout.Objects.{Placed, IsAmong}
use Rattle.heap_meaning.specs.obj_layout.Objects as contents
use Rattle.heap_meaning.specs.obj_layout.Stored.{Space}
use Rattle.heap_meaning.specs.swizzle.Objects.{header_in, reference_at, object_in}
use Rattle.heap_meaning.specs.swizzle.Joint.{Shown, shown_words}
use Rattle.heap_meaning.specs.heap_places.Words.{int_in}
use Rattle.heap_meaning.specs.avl_trees.Trees.{Tree, height, items, IsBalanced}
use Rattle.heap_meaning.specs.avl_trees.Trees as trees
use Rattle.heap_meaning.specs.avl_trees.Standing.{root_of, Stands as TreeStands}
use Rattle.heap_meaning.specs.node_rows.Keys.{by_ints as int_keys}
use Rattle.heap_meaning.specs.node_rows.Nodes.{I, HasNode, link_of}
use Rattle.heap_meaning.specs.Tables.{key_kind, HasEntries, HasNodes, IsTable}
use Rattle.heap_meaning.specs.Standing.{Pairing, StandsFor}
use Rattle.heap_meaning.specs.Paired.{paired}
use Rattle.heap_fit.specs.ps_heap.Tables.{Entry, Table, by_ints, by_strings, without_keys, cardinality}
use Rattle.heap_fit.specs.ps_heap.Values.{Pointer}
use Rattle.heap_fit.specs.ps_heap.Objects.{Object, Structure, Elements, Scope, Keyed, object_at}
use Rattle.heap_fit.specs.ps_heap.Databases.{Database}
use Rattle.heap_fit.specs.ps_heap.Held.{StoredHeap}
use Rattle.space_meaning.specs.Space.{IsStored, SeenIn}
use Rattle.space_meaning.specs.Stands.{IsThing, AreNamed, IsDirectoryOf, stored, StandsUnder, SpaceStands}
use Rattle.space_meaning.proofs.Seen.{seen-one}
use Rattle.space_meaning.proofs.Cutting.{pid, at, space_with, is-object, Follow, seen-there}
use Rattle.heap_meaning.proofs.TreeLaws.{nil-leaf, sides-of, entries-rise}
use Rattle.space_meaning.proofs.Trees.{node_shown}

-- The words.

abbrev pub table : ℕ → List ℕ
table count = 0x0000000100000007 ∷ 0 ∷ 3 ∷ 0 ∷ pid 9 ∷ 1 ∷ 2 ∷ count ∷ []

-- a node: its sides, its key and its height
record Spelled : Type 0 where
  left : ℕ
  right : ℕ
  key : ℕ
  high : ℕ

abbrev node : Spelled → List ℕ
node of = 0x0000000400000008 ∷ 0 ∷ 3 ∷ 0 ∷ of.left ∷ of.right ∷ 0 ∷ pid 42 ∷ 0 ∷ of.key ∷ of.high ∷ []

-- "c", the empty text, and the directory of the database whose root the table is
abbrev pub name : List ℕ
name = 1 ∷ 0 ∷ 0x0000000100000002 ∷ 0 ∷ 0 ∷ 0x63 ∷ []

abbrev pub password : List ℕ
password = 1 ∷ 0 ∷ 1 ∷ 0 ∷ 0 ∷ []

abbrev directory : List ℕ
directory = 0x0000000300000009 ∷ 0 ∷ 1 ∷ 0 ∷ pid 50 ∷ pid 56 ∷ pid 1 ∷ 0 ∷ []

abbrev empty : List ℕ
empty = 0x0000000100000007 ∷ 0 ∷ 3 ∷ 0 ∷ 0 ∷ 1 ∷ 0 ∷ 0 ∷ []

-- its nodes lie one after the other, the root first
abbrev objects : ℕ → Spelled → Spelled → Spelled → List Placed
objects count a b c = at 1 (table count) ∷ at 9 (node a) ∷ at 20 (node b) ∷ at 31 (node c) ∷ at 42 empty ∷ at 50 name ∷ at 56 password ∷ at 61 directory ∷ []

space : ℕ → Spelled → Spelled → Spelled → Space
space count a b c = space_with (objects count a b c) 61

they-follow : (count : ℕ) (a b c : Spelled) → Follow 1 (objects count a b c)
they-follow count a b c = (refl, is-object kind.Table 1 3 0 contents.table (table count) (omega arith) (omega arith) refl refl refl refl tt, (refl, node-is_object a, (refl, node-is_object b, (refl, node-is_object c, others))))
  where
    node-is_object : (of : Spelled) → contents.IsObject (node of)
    node-is_object of = is-object kind.Node 4 3 0 contents.node (node of) (omega arith) (omega arith) refl refl refl refl tt

    others : Follow 42 (at 42 empty ∷ at 50 name ∷ at 56 password ∷ at 61 directory ∷ [])
    others = (
      refl,
      is-object kind.Table 1 3 0 contents.table empty (omega arith) (omega arith) refl refl refl refl tt,
      (
        refl,
        is-object kind.Text 0 2 1 (contents.text 1) name (omega arith) (omega arith) refl refl refl refl tt,
        (
          refl,
          is-object kind.Text 0 1 0 (contents.text 0) password (omega arith) (omega arith) refl refl refl refl tt,
          (
            refl,
            is-object kind.Directory 3 1 0 (contents.directory 1) directory (omega arith) (omega arith) refl refl refl refl (omega arith, omega arith),
            tt,
          ),
        ),
      ),
    )

-- What is seen of them.

abbrev pub table_shown : ℕ → Shown
table_shown count = record { kind = kind.Table; refs = Pid 9 ∷ []; nums = 1 ∷ 2 ∷ count ∷ []; bytes = 0 }

abbrev shown : Reference → Reference → Spelled → Shown
shown left right of = node_shown left right Nil (Pid 42) of.key of.high

abbrev empty_shown : Shown
empty_shown = record { kind = kind.Table; refs = Nil ∷ []; nums = 1 ∷ 0 ∷ 0 ∷ []; bytes = 0 }

seen-in : (count : ℕ) (a b c : Spelled) (n : ℕ) (words : List ℕ) (it : Shown) → IsAmong (at n words) (objects count a b c) → IsStored words → it ≡ shown_words words
    → SeenIn (space count a b c) (Pid n) it
unfolding space
seen-in count a b c n words it among stored is = seen-there (objects count a b c) 61 n words it (they-follow count a b c) among stored is

empty-seen : (count : ℕ) (a b c : Spelled) → SeenIn (space count a b c) (Pid 42) empty_shown
unfolding header_in reference_at object_in
empty-seen count a b c = seen-in count a b c 42 empty empty_shown (inr (inr (inr (inr (inl refl)))))
    (record { flags = refl; pid = refl; chain = refl; refs = (inl refl, tt) }) refl

table-seen : (count : ℕ) (a b c : Spelled) → SeenIn (space count a b c) (Pid 1) (table_shown count)
unfolding header_in reference_at object_in
table-seen count a b c = seen-in count a b c 1 (table count) (table_shown count) (inl refl)
    (record { flags = refl; pid = refl; chain = refl; refs = (inr (omega arith), tt) }) refl

abbrev directory_shown : Shown
directory_shown = record { kind = kind.Directory; refs = Pid 50 ∷ Pid 56 ∷ Pid 1 ∷ []; nums = 0 ∷ []; bytes = 0 }

directory-seen : (count : ℕ) (a b c : Spelled) → SeenIn (space count a b c) (Pid 61) directory_shown
unfolding header_in reference_at object_in
directory-seen count a b c = seen-in count a b c 61 directory directory_shown (inr (inr (inr (inr (inr (inr (inr (inl refl))))))))
    (record { flags = refl; pid = refl; chain = refl; refs = (inr (omega arith), (inr (omega arith), (inr (omega arith), tt))) }) refl

-- The empty table has number 0.

abbrev names : List Reference
names = Pid 42 ∷ []

abbrev under : ℤ → Entry ℤ
under key = record { key = key; object = 0 }

-- the pair of a node, whose value is the table without keys
abbrev item : Reference → ℤ → I int_keys
item n key = record { name = n; entry = record { key = key; value = Pid 42 } }

-- a pntr may name the table
empty-named : (count : ℕ) (a b c : Spelled) → StandsFor (SeenIn (space count a b c)) (stored names) (Pid 42) (Pointer 0)
empty-named count a b c = ((refl, 42, refl), inr (record { it = empty_shown; there = empty-seen count a b c; kind_is = refl }))

some-name : Pid 42 ≢ Nil
some-name e = cc

node-is : (count : ℕ) (a b c : Spelled) (n left right : Reference) (of : Spelled) (key : ℤ) (on_left on_right : Option Reference) → int_in of.key ≡ Some key
    → SeenIn (space count a b c) n (shown left right of) → link_of left ≡ on_left → link_of right ≡ on_right
    → HasNode int_keys (SeenIn (space count a b c)) n (record { left = on_left; right = on_right; entry = record { key = key; value = Pid 42 }; height = of.high })
node-is count a b c n left right of key on_left on_right spelled there l r = record {
  it = shown left right of;
  there = there;
  is = record { kind = refl; refs = refl; nums = refl; left = l; right = r; key = spelled; value = refl; height = refl };
}

-- Three keys: 5 over 3 and 8.

abbrev five : ℕ → Spelled
five high = record { left = pid 20; right = pid 31; key = 5; high = high }

abbrev alone : ℕ → Spelled
alone key = record { left = 0; right = 0; key = key; high = 1 }

-- the space in which the root has this height
abbrev three : ℕ → Space
three high = space 3 (five high) (alone 3) (alone 8)

five-seen : (high : ℕ) → SeenIn (three high) (Pid 9) (shown (Pid 20) (Pid 31) (five high))
unfolding header_in reference_at object_in
five-seen high = seen-in 3 (five high) (alone 3) (alone 8) 9 (node (five high)) (shown (Pid 20) (Pid 31) (five high)) (inr (inl refl))
    (record { flags = refl; pid = refl; chain = refl; refs = (inr (omega arith), (inr (omega arith), (inl refl, (inr (omega arith), tt)))) }) refl

three-seen : (high : ℕ) → SeenIn (three high) (Pid 20) (shown Nil Nil (alone 3))
unfolding header_in reference_at object_in
three-seen high = seen-in 3 (five high) (alone 3) (alone 8) 20 (node (alone 3)) (shown Nil Nil (alone 3)) (inr (inr (inl refl)))
    (record { flags = refl; pid = refl; chain = refl; refs = (inl refl, (inl refl, (inl refl, (inr (omega arith), tt)))) }) refl

eight-seen : (high : ℕ) → SeenIn (three high) (Pid 31) (shown Nil Nil (alone 8))
unfolding header_in reference_at object_in
eight-seen high = seen-in 3 (five high) (alone 3) (alone 8) 31 (node (alone 8)) (shown Nil Nil (alone 8)) (inr (inr (inr (inl refl))))
    (record { flags = refl; pid = refl; chain = refl; refs = (inl refl, (inl refl, (inl refl, (inr (omega arith), tt)))) }) refl

three_keys : IsTable (SeenIn (three 2)) (stored names) (Pid 1) (by_ints (under (pos 3) ∷ under (pos 5) ∷ under (pos 8) ∷ [])) (Pid 20 ∷ Pid 9 ∷ Pid 31 ∷ [])
unfolding int_in cardinality
three_keys = record {
  it = table_shown 3;
  there = table-seen 3 (five 2) (alone 3) (alone 8);
  kind_is = refl;
  root = Pid 9;
  home = 1;
  refs = refl;
  nums = refl;
  has = record {
    tree = trees.node (trees.node trees.leaf (item (Pid 20) (pos 3)) trees.leaf) (item (Pid 9) (pos 5)) (trees.node trees.leaf (item (Pid 31) (pos 8)) trees.leaf);
    root_is = refl;
    stands = (
      node-is 3 (five 2) (alone 3) (alone 8) (Pid 9) (Pid 20) (Pid 31) (five 2) (pos 5) (Some (Pid 20)) (Some (Pid 31)) refl (five-seen 2) refl refl,
      (node-is 3 (five 2) (alone 3) (alone 8) (Pid 20) Nil Nil (alone 3) (pos 3) None None refl (three-seen 2) refl refl, tt, tt),
      (node-is 3 (five 2) (alone 3) (alone 8) (Pid 31) Nil Nil (alone 8) (pos 8) None None refl (eight-seen 2) refl refl, tt, tt),
    );
    rising = ((refl, (refl, tt)), ((refl, tt), (tt, tt)));
    balanced = ((tt, tt, (omega arith, omega arith)), (tt, tt, (omega arith, omega arith)), (omega arith, omega arith));
    values = (some-name, (some-name, (some-name, tt)));
    pairs = (
      refl,
      empty-named 3 (five 2) (alone 3) (alone 8),
      (refl, empty-named 3 (five 2) (alone 3) (alone 8), (refl, empty-named 3 (five 2) (alone 3) (alone 8), tt)),
    );
    nodes_are = refl;
  };
}

-- a table is read from its words: where they say that its keys are ints, it has a tree of ints
pub record IntsIn (at : Space) (pair : Pairing) (root : Reference) (nodes : List Reference) : Type 0 where
  pub entries : List (Entry ℤ)
  pub has : HasEntries int_keys (SeenIn at) pair root entries nodes

pub ints-in : (at : Space) (pair : Pairing) (n root : Reference) (home count : ℕ) (of : Table) (nodes : List Reference)
    → SeenIn at n (record { kind = kind.Table; refs = root ∷ []; nums = home ∷ 2 ∷ count ∷ []; bytes = 0 }) → IsTable (SeenIn at) pair n of nodes → IntsIn at pair root nodes
ints-in at pair n root home count of nodes there is = by of is.nums is.has
  where
    same : is.it ≡ record { kind = kind.Table; refs = root ∷ []; nums = home ∷ 2 ∷ count ∷ []; bytes = 0 }
    same = seen-one at n is.it (record { kind = kind.Table; refs = root ∷ []; nums = home ∷ 2 ∷ count ∷ []; bytes = 0 }) is.there there

    by : (of : Table) → is.it.nums ≡ is.home ∷ key_kind of ∷ cardinality of ∷ [] → HasNodes (SeenIn at) pair is.root of nodes → IntsIn at pair root nodes
    by without_keys nums has =
        let words : home ∷ 2 ∷ count ∷ [] ≡ is.home ∷ 0 ∷ cardinality without_keys ∷ [] = sym (ap (λ (it : Shown). it.nums) same) ∙ nums in absurd (cc)
    by (by_strings entries) nums has =
        let words : home ∷ 2 ∷ count ∷ [] ≡ is.home ∷ 1 ∷ cardinality (by_strings entries) ∷ [] = sym (ap (λ (it : Shown). it.nums) same) ∙ nums in absurd (cc)
    by (by_ints entries) nums has =
        let refs : root ∷ [] ≡ is.root ∷ [] = sym (ap (λ (it : Shown). it.refs) same) ∙ is.refs in
        let here : is.root ≡ root = cc in
        record { entries = entries; has = subst (λ (m : Reference). HasEntries int_keys (SeenIn at) pair m entries nodes) here has }

-- Where the table stands for none, the space stands for no heap: the directory names the table.

paired-root : (count : ℕ) (a b c : Spelled) (pair : Pairing) (ds : List Database) → IsDirectoryOf (SeenIn (space count a b c)) pair 61 ds
    → (d : Database) × pair (Pid 1) d.root
paired-root count a b c pair [] is = absurd (omega (arith, is))
paired-root count a b c pair (d ∷ ds) is =
    let same = seen-one (space count a b c) (Pid 61) is.it directory_shown is.there (directory-seen count a b c) in
    (d, (subst (λ (it : Shown). AreNamed (SeenIn (space count a b c)) pair it.refs (d ∷ ds)) same is.names).2.0)

-- what is seen as a table stands for a table
pub table-in : (at : Space) (heap : StoredHeap) (names : List Reference) (s : StandsUnder at heap names) (n id : ℕ) (it : Shown) → SeenIn at (Pid n) it → it.kind ≡ kind.Table
    → paired names (Pid n) id → (of : Table) × IsTable (SeenIn at) (stored names) (Pid n) of (s.tables.nodes id)
table-in at heap names s n id it there is p =
    let both = s.both n id p in
    by both.object both.means (subst (λ (x : Shown). IsThing (SeenIn at) (paired names) x both.object) (seen-one at (Pid n) both.it it both.there there) both.like)
  where
    by : (o : Object) → object_at heap.objects id ≡ Some o → IsThing (SeenIn at) (paired names) it o → (of : Table) × IsTable (SeenIn at) (stored names) (Pid n) of (s.tables.nodes id)
    by (Structure class fields) means like = let of : kind.Table ≡ kind.Structure = sym is ∙ like.0.kind_is in absurd (cc)
    by (Elements ty low elements) means like = let of : kind.Table ≡ kind.Vector = sym is ∙ like.0.rows.kind_is in absurd (cc)
    by (Scope text parent values) means like = let of : kind.Table ≡ kind.Scope = sym is ∙ like.0.kind_is in absurd (cc)
    by (Keyed of) means like = (of, s.tables.each (Pid n) id of (p, n, refl) means)

no-heap : (count : ℕ) (a b c : Spelled)
    → ((pair : Pairing) (of : Table) (nodes : List Reference) → IsTable (SeenIn (space count a b c)) pair (Pid 1) of nodes → ⊥)
    → (heap : StoredHeap) → SpaceStands (space count a b c) heap → ⊥
unfolding space
no-heap count a b c none heap s =
    let root = paired-root count a b c (paired s.names) heap.directory s.stands.directory in
    let of = table-in (space count a b c) heap s.names s.stands 1 root.0.root (table_shown count) (table-seen count a b c) refl root.1 in
    none (stored s.names) of.0 (s.stands.tables.nodes root.0.root) of.1

-- a node without sides has height 1
height-alone : (at : Space) (n key : ℕ) (t : Tree (I int_keys)) → SeenIn at (Pid n) (shown Nil Nil (alone key)) → link_of (Pid n) ≡ root_of t
    → TreeStands (HasNode int_keys (SeenIn at)) t → height t ≡ 1
height-alone at n key t there root stands = sym (sides-of int_keys (SeenIn at) n (shown Nil Nil (alone key)) t (seen-one at) there root stands).high_is

-- Another height of the root.

too-high : (pair : Pairing) (of : Table) (nodes : List Reference) → IsTable (SeenIn (three 3)) pair (Pid 1) of nodes → ⊥
too-high pair of nodes is =
    let ints = ints-in (three 3) pair (Pid 1) (Pid 9) 1 3 of nodes (table-seen 3 (five 3) (alone 3) (alone 8)) is in
    let tree = ints.has in
    let sides = sides-of int_keys (SeenIn (three 3)) 9 (shown (Pid 20) (Pid 31) (five 3)) tree.tree (seen-one (three 3)) (five-seen 3) tree.root_is tree.stands in
    let left = height-alone (three 3) 20 3 sides.l (three-seen 3) sides.left_is sides.on_left in
    let right = height-alone (three 3) 31 8 sides.r (eight-seen 3) sides.right_is sides.on_right in
    let high : 3 ≡ height (trees.node sides.l sides.item sides.r) = sides.high_is ∙ ap height sides.tree_is in
    absurd (omega (arith, left, right, high))

another_height : (heap : StoredHeap) → SpaceStands (three 3) heap → ⊥
another_height heap s = no-heap 3 (five 3) (alone 3) (alone 8) too-high heap s

-- All to the right: 3, with 5 to its right, with 8 to its right. Each height is that of its tree, but the sides of 3 differ by two.

abbrev upper : Spelled
upper = record { left = 0; right = pid 20; key = 3; high = 3 }

abbrev middle : Spelled
middle = record { left = 0; right = pid 31; key = 5; high = 2 }

abbrev leaning : Space
leaning = space 3 upper middle (alone 8)

first-leans : SeenIn leaning (Pid 9) (shown Nil (Pid 20) upper)
unfolding header_in reference_at object_in
first-leans = seen-in 3 upper middle (alone 8) 9
    (node upper) (shown Nil (Pid 20) upper) (inr (inl refl))
    (record { flags = refl; pid = refl; chain = refl; refs = (inl refl, (inr (omega arith), (inl refl, (inr (omega arith), tt)))) }) refl

second-leans : SeenIn leaning (Pid 20) (shown Nil (Pid 31) middle)
unfolding header_in reference_at object_in
second-leans = seen-in 3 upper middle (alone 8) 20
    (node middle) (shown Nil (Pid 31) middle) (inr (inr (inl refl)))
    (record { flags = refl; pid = refl; chain = refl; refs = (inl refl, (inr (omega arith), (inl refl, (inr (omega arith), tt)))) }) refl

leans : (pair : Pairing) (of : Table) (nodes : List Reference) → IsTable (SeenIn leaning) pair (Pid 1) of nodes → ⊥
leans pair of nodes is =
    let ints = ints-in leaning pair (Pid 1) (Pid 9) 1 3 of nodes (table-seen 3 upper middle (alone 8)) is in
    let tree = ints.has in
    let sides = sides-of int_keys (SeenIn leaning) 9 (shown Nil (Pid 20) upper) tree.tree (seen-one leaning) first-leans tree.root_is tree.stands in
    let left = ap height (nil-leaf int_keys sides.l sides.left_is) in
    let right = (sides-of int_keys (SeenIn leaning) 20 (shown Nil (Pid 31) middle) sides.r (seen-one leaning) second-leans sides.right_is sides.on_right).high_is in
    let balanced = subst IsBalanced sides.tree_is tree.balanced in
    absurd (omega (arith, left, right, balanced.2.0, balanced.2.1))

all_to_the_right : (heap : StoredHeap) → SpaceStands leaning heap → ⊥
all_to_the_right heap s = no-heap 3 upper middle (alone 8) leans heap s

-- Two keys, one of them below 0: 5 over -1. The third node is no node of the table.

-- -1 in two's complement
abbrev minus_one : ℕ
minus_one = 0xffffffffffffffff

abbrev over : Spelled
over = record { left = pid 20; right = 0; key = 5; high = 2 }

abbrev two : Space
two = space 2 over (alone minus_one) (alone 8)

over-seen : SeenIn two (Pid 9) (shown (Pid 20) Nil over)
unfolding header_in reference_at object_in
over-seen = seen-in 2 over (alone minus_one) (alone 8) 9 (node over) (shown (Pid 20) Nil over) (inr (inl refl))
    (record { flags = refl; pid = refl; chain = refl; refs = (inr (omega arith), (inl refl, (inl refl, (inr (omega arith), tt)))) }) refl

below-seen : SeenIn two (Pid 20) (shown Nil Nil (alone minus_one))
unfolding header_in reference_at object_in
below-seen = seen-in 2 over (alone minus_one) (alone 8) 20 (node (alone minus_one)) (shown Nil Nil (alone minus_one)) (inr (inr (inl refl)))
    (record { flags = refl; pid = refl; chain = refl; refs = (inl refl, (inl refl, (inl refl, (inr (omega arith), tt)))) }) refl

two_keys : IsTable (SeenIn two) (stored names) (Pid 1) (by_ints (under (negsuc 0) ∷ under (pos 5) ∷ [])) (Pid 20 ∷ Pid 9 ∷ [])
unfolding int_in cardinality
two_keys = record {
  it = table_shown 2;
  there = table-seen 2 over (alone minus_one) (alone 8);
  kind_is = refl;
  root = Pid 9;
  home = 1;
  refs = refl;
  nums = refl;
  has = record {
    tree = trees.node (trees.node trees.leaf (item (Pid 20) (negsuc 0)) trees.leaf) (item (Pid 9) (pos 5)) trees.leaf;
    root_is = refl;
    stands = (
      node-is 2 over (alone minus_one) (alone 8) (Pid 9) (Pid 20) Nil over (pos 5) (Some (Pid 20)) None refl over-seen refl refl,
      (node-is 2 over (alone minus_one) (alone 8) (Pid 20) Nil Nil (alone minus_one) (negsuc 0) None None refl below-seen refl refl, tt, tt),
      tt,
    );
    rising = ((refl, tt), (tt, tt));
    balanced = ((tt, tt, (omega arith, omega arith)), tt, (omega arith, omega arith));
    values = (some-name, (some-name, tt));
    pairs = (refl, empty-named 2 over (alone minus_one) (alone 8), (refl, empty-named 2 over (alone minus_one) (alone 8), tt));
    nodes_are = refl;
  };
}

no_keys : IsTable (SeenIn two) (stored names) (Pid 42) without_keys []
unfolding cardinality
no_keys = record {
  it = empty_shown;
  there = empty-seen 2 over (alone minus_one) (alone 8);
  kind_is = refl;
  root = Nil;
  home = 1;
  refs = refl;
  nums = refl;
  has = (refl, refl);
}

another_order : (nodes : List Reference) → IsTable (SeenIn two) (stored names) (Pid 1) (by_ints (under (pos 5) ∷ under (negsuc 0) ∷ [])) nodes → ⊥
another_order nodes table =
    let has = table.has in
    let rise = entries-rise int_cmp (SeenIn two) (stored names) (items has.tree) (under (pos 5) ∷ under (negsuc 0) ∷ []) has.rising has.pairs in
    let below = rise.0.0 in
    absurd (cc)
