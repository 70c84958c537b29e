-- A worked space in which a node belongs to two tables: under 3 and 5 the root has a table whose root is the node of 3. It stands for no heap, though all else
-- is as it must be.
use Rattle.std.proofs.Common.{◌≡◌, inl, inr, ℕ, List, [], ◌∷◌, refl, sym, ap, ◌∙◌, subst, arith, Some}
use Rattle.heap_meaning.specs.obj_layout.declared.kind.Kind.TheVariants as kind
use Rattle.heap_meaning.specs.obj_layout.declared.reference.Reference.{Reference}
use Rattle.heap_meaning.specs.obj_layout.declared.reference.Reference.TheVariants.{Nil, Pid}
use Rattle.heap_meaning.specs.obj_layout.Objects.{Placed, IsAmong}
use Rattle.heap_meaning.specs.obj_layout.Objects as contents
use Rattle.heap_meaning.specs.obj_layout.Stored.{Space}
use Rattle.heap_meaning.specs.swizzle.Objects.{header_in, reference_at, object_in}
use Rattle.heap_meaning.specs.swizzle.Joint.{Shown, shown_words}
use Rattle.heap_meaning.specs.avl_trees.Trees.{Tree, node as node_of, items}
use Rattle.heap_meaning.specs.node_rows.Keys.{by_ints as int_keys}
use Rattle.heap_meaning.specs.node_rows.Nodes.{I, IsAmong as IsNameAmong}
use Rattle.heap_meaning.specs.Tables.{ArePairs, names_of}
use Rattle.heap_meaning.specs.Standing.{Pairing}
use Rattle.heap_meaning.specs.Paired.{name_in, paired}
use Rattle.heap_meaning.proofs.TableLaws.{among-front}
use Rattle.heap_fit.specs.ps_heap.Databases.{Database}
use Rattle.heap_fit.specs.ps_heap.Held.{StoredHeap}
use Rattle.space_meaning.specs.Space.{IsStored, SeenIn}
use Rattle.space_meaning.specs.Stands.{AreNamed, IsDirectoryOf, stored, SpaceStands}
use Rattle.space_meaning.proofs.Seen.{seen-one}
use Rattle.space_meaning.proofs.Cutting.{pid, at, space_with, is-object, Follow, seen-there}
use Rattle.heap_meaning.proofs.TreeLaws.{sides-of, root-among, pair-under}
use Rattle.space_meaning.proofs.Trees.{node_shown}
use Rattle.space_meaning.proofs.TableRows.{table, name, password, table_shown, table-in, ints-in}

-- The words.

-- a node: its left side, its key and its height
abbrev node : ℕ → ℕ → ℕ → List ℕ
node left key high = 0x0000000400000008 ∷ 0 ∷ 3 ∷ 0 ∷ left ∷ 0 ∷ 0 ∷ pid 31 ∷ 0 ∷ key ∷ high ∷ []

abbrev second : List ℕ
second = 0x0000000100000007 ∷ 0 ∷ 3 ∷ 0 ∷ pid 20 ∷ 1 ∷ 2 ∷ 1 ∷ []

abbrev directory : List ℕ
directory = 0x0000000300000009 ∷ 0 ∷ 1 ∷ 0 ∷ pid 39 ∷ pid 45 ∷ pid 1 ∷ 0 ∷ []

abbrev objects : List Placed
objects =
    at 1 (table 2) ∷ at 9 (node (pid 20) 5 2) ∷ at 20 (node 0 3 1) ∷ at 31 second ∷ at 39 name ∷ at 45 password ∷ at 50 directory ∷ []

space : Space
space = space_with objects 50

they-follow : Follow 1 objects
they-follow = (
  refl,
  is-object kind.Table 1 3 0 contents.table (table 2) (omega arith) (omega arith) refl refl refl refl tt,
  (
    refl,
    is-object kind.Node 4 3 0 contents.node (node (pid 20) 5 2) (omega arith) (omega arith) refl refl refl refl tt,
    (
      refl,
      is-object kind.Node 4 3 0 contents.node (node 0 3 1) (omega arith) (omega arith) refl refl refl refl tt,
      (
        refl,
        is-object kind.Table 1 3 0 contents.table second (omega arith) (omega arith) refl refl refl refl tt,
        (
          refl,
          is-object kind.Text 0 2 1 (contents.text 1) name (omega arith) (omega arith) refl refl refl refl tt,
          (
            refl,
            is-object kind.Text 0 1 0 (contents.text 0) password (omega arith) (omega arith) refl refl refl refl tt,
            (
              refl,
              is-object kind.Directory 3 1 0 (contents.directory 1) directory (omega arith) (omega arith) refl refl refl refl (omega arith, omega arith),
              tt,
            ),
          ),
        ),
      ),
    ),
  ),
)

-- What is seen of them.

seen-in : (n : ℕ) (words : List ℕ) (it : Shown) → IsAmong (at n words) objects → IsStored words → it ≡ shown_words words → SeenIn space (Pid n) it
unfolding space
seen-in n words it among stored is = seen-there objects 50 n words it they-follow among stored is

table-seen : SeenIn space (Pid 1) (table_shown 2)
unfolding header_in reference_at object_in
table-seen = seen-in 1 (table 2) (table_shown 2) (inl refl) (record { flags = refl; pid = refl; chain = refl; refs = (inr (omega arith), tt) }) refl

upper-seen : SeenIn space (Pid 9) (node_shown (Pid 20) Nil Nil (Pid 31) 5 2)
unfolding header_in reference_at object_in
upper-seen = seen-in 9 (node (pid 20) 5 2) (node_shown (Pid 20) Nil Nil (Pid 31) 5 2) (inr (inl refl))
    (record { flags = refl; pid = refl; chain = refl; refs = (inr (omega arith), (inl refl, (inl refl, (inr (omega arith), tt)))) }) refl

shared-seen : SeenIn space (Pid 20) (node_shown Nil Nil Nil (Pid 31) 3 1)
unfolding header_in reference_at object_in
shared-seen = seen-in 20 (node 0 3 1) (node_shown Nil Nil Nil (Pid 31) 3 1) (inr (inr (inl refl)))
    (record { flags = refl; pid = refl; chain = refl; refs = (inl refl, (inl refl, (inl refl, (inr (omega arith), tt)))) }) refl

abbrev second_shown : Shown
second_shown = record { kind = kind.Table; refs = Pid 20 ∷ []; nums = 1 ∷ 2 ∷ 1 ∷ []; bytes = 0 }

second-seen : SeenIn space (Pid 31) second_shown
unfolding header_in reference_at object_in
second-seen = seen-in 31 second second_shown (inr (inr (inr (inl refl))))
    (record { flags = refl; pid = refl; chain = refl; refs = (inr (omega arith), tt) }) refl

abbrev directory_shown : Shown
directory_shown = record { kind = kind.Directory; refs = Pid 39 ∷ Pid 45 ∷ Pid 1 ∷ []; nums = 0 ∷ []; bytes = 0 }

directory-seen : SeenIn space (Pid 50) directory_shown
unfolding header_in reference_at object_in
directory-seen = seen-in 50 directory directory_shown (inr (inr (inr (inr (inr (inr (inl refl)))))))
    (record { flags = refl; pid = refl; chain = refl; refs = (inr (omega arith), (inr (omega arith), (inr (omega arith), tt))) }) refl

paired-root : (pair : Pairing) (ds : List Database) → IsDirectoryOf (SeenIn space) pair 50 ds → (d : Database) × pair (Pid 1) d.root
paired-root pair [] is = absurd (omega (arith, is))
paired-root pair (d ∷ ds) is =
    let same = seen-one space (Pid 50) is.it directory_shown is.there directory-seen in
    (d, (subst (λ (it : Shown). AreNamed (SeenIn space) pair it.refs (d ∷ ds)) same is.names).2.0)

-- a node to the left of a tree's root is one of its nodes
left-among : (l : Tree (I int_keys)) (a : I int_keys) (r : Tree (I int_keys)) (n : Reference) → IsNameAmong n (names_of (items l)) → IsNameAmong n (names_of (items (node_of l a r)))
left-among l a r n there = among-front (items l) (a ∷ items r) n there

-- The node of 3 is on the left of the root of the first table, and it is the root of the second.
a_node_of_two_tables : (heap : StoredHeap) → SpaceStands space heap → ⊥
unfolding space
a_node_of_two_tables heap s =
    let pair = stored s.names in
    let root = paired-root (paired s.names) heap.directory s.stands.directory in
    let id = root.0.root in
    let first = table-in space heap s.names s.stands 1 id (table_shown 2) table-seen refl root.1 in
    let ints = ints-in space pair (Pid 1) (Pid 9) 1 2 first.0 (s.stands.tables.nodes id) table-seen first.1 in
    let tree = ints.has in
    let sides = sides-of int_keys (SeenIn space) 9 (node_shown (Pid 20) Nil Nil (Pid 31) 5 2) tree.tree (seen-one space) upper-seen tree.root_is tree.stands in
    let below : IsNameAmong (Pid 20) (s.stands.tables.nodes id) =
    subst (IsNameAmong (Pid 20)) (sym tree.nodes_are) (subst (λ (t : Tree (I int_keys)). IsNameAmong (Pid 20) (names_of (items t))) (sym sides.tree_is)
    (left-among sides.l sides.item sides.r (Pid 20) (root-among int_keys sides.l (Pid 20) sides.left_is refl))) in
    let value = pair-under (SeenIn space) pair (items sides.l) sides.item (items sides.r) ints.entries
    (subst (λ (t : Tree (I int_keys)). ArePairs (SeenIn space) pair (items t) ints.entries) sides.tree_is tree.pairs) in
    let second = table-in space heap s.names s.stands 31 value.0 second_shown second-seen refl (subst (λ (n : Reference). paired s.names n value.0) (sym sides.value_is) value.1.0.0) in
    let other = (ints-in space pair (Pid 31) (Pid 20) 1 1 second.0 (s.stands.tables.nodes value.0) second-seen second.1).has in
    let also : IsNameAmong (Pid 20) (s.stands.tables.nodes value.0) = subst (IsNameAmong (Pid 20)) (sym other.nodes_are) (root-among int_keys other.tree (Pid 20) other.root_is refl) in
    let one = s.stands.tables.apart id value.0 (Pid 20) below also in
    let names : Some (Pid 1) ≡ Some (Pid 31) = sym root.1 ∙ ap (name_in s.names) one ∙ subst (λ (n : Reference). paired s.names n value.0) (sym sides.value_is) value.1.0.0 in
    let same : ◌≡◌ {A = ℕ} 1 31 = cc in
    absurd (omega (arith, same))
