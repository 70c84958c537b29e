-- What the search for the next key in a table's tree answers.
use Rattle.std.specs.Prelude.{◌≡◌, ◌≢◌, ◌⊎◌, ℕ, ◌<◌, Option, Some, None, Result, MatchResult}
use Rattle.std.specs.declared.cmp.Ordering.{Ordering}
use Rattle.std.specs.declared.cmp.Ordering.TheVariants.{Less}
use Rattle.heap_places.specs.obj_layout.declared.reference.Reference.{Reference}
use Rattle.heap_places.specs.swizzle.declared.fault.SwizzleFault.{SwizzleFault}
use Rattle.heap_places.specs.swizzle.Heap.{Heap}
use Rattle.avl_trees.specs.Trees.{Tree, node, height, items, next}
use Rattle.avl_trees.specs.Standing.{Item, IsRising, Stands, root_of, seek}
use Rattle.node_rows.specs.Keys.{Keys, KeyOf, order_by}
use Rattle.table_nodes.specs.Nodes.{IsNamed, IsLinked, IsFetchFault}
use Rattle.node_rows.specs.Nodes.{I}
use Rattle.table_nodes.specs.Steps.{Place, rows_of}
use Rattle.table_nodes.specs.Searching.{IsTree}
use Rattle.table_nodes.specs.Spans.{IsWithin}
use Rattle.table_nodes.specs.declared.span.Span.{Span}
use Rattle.table_nodes.specs.declared.span.Way.{Way}
use Rattle.table_nodes.specs.declared.follow.Turn.{Turn}

-- the name of an item's node
abbrev pub item_name : {K : Type 0} → Option (Item Reference K Reference) → Option Reference
item_name None = None
item_name (Some a) = Some a.name

-- At a node: where the key is below the node's, that is the last such one, and the search goes on at the left side; else at the right one.
abbrev pub IsTurn : (ks : Keys) → Heap → ℕ → Option ℕ → Ordering → Tree (I ks) → Tree (I ks) → Turn → Type 0
IsTurn ks heap at last order x y turn =
    ((order ≡ Less) × (turn.last ≡ Some at) × IsLinked heap turn.side (root_of x) × IsWithin ks heap turn.span (items x))
    ⊎ ((order ≢ Less) × (turn.last ≡ last) × IsLinked heap turn.side (root_of y) × IsWithin ks heap turn.span (items y))

abbrev pub TurnsAt : (ks : Keys) → Place → Heap → ℕ → Option ℕ → KeyOf ks → Span → Result Turn SwizzleFault → Type 0
TurnsAt ks old new at last key span result = (x : Tree (I ks)) (b : I ks) (y : Tree (I ks)) → Stands (rows_of ks old) (node x b y) → IsNamed old.heap at b.name
    → IsRising (order_by ks) (node x b y) → IsWithin ks old.heap span (items (node x b y)) → MatchResult result (IsTurn ks new at last (order_by ks key b.entry.key) x y) (IsFetchFault old.heap old.outside)

-- The left side of a node, and within what the keys there lie.
abbrev pub BeginsAt : (ks : Keys) → Place → Heap → ℕ → Span → Result Way SwizzleFault → Type 0
BeginsAt ks old new at span result = (x : Tree (I ks)) (b : I ks) (y : Tree (I ks)) → Stands (rows_of ks old) (node x b y) → IsNamed old.heap at b.name
    → IsRising (order_by ks) (node x b y) → IsWithin ks old.heap span (items (node x b y))
    → MatchResult result (λ way. IsLinked new way.side (root_of x) × IsWithin ks new way.span (items x)) (IsFetchFault old.heap old.outside)

-- The node of the least key above a key is answered, none where there is none, or a reference's object couldn't be fetched.
abbrev pub Follows : (ks : Keys) → Place → Heap → Option ℕ → ℕ → KeyOf ks → Result (Option ℕ) SwizzleFault → Type 0
Follows ks old new root bound key result = (t : Tree (I ks)) → IsTree ks old root t → height t < bound
    → MatchResult result (λ found. IsLinked new found (item_name (next (seek (order_by ks) key) t None))) (IsFetchFault old.heap old.outside)

-- The node of the least key is answered, none where the tree is empty, or a reference's object couldn't be fetched.
abbrev pub Begins : (ks : Keys) → Place → Heap → Option ℕ → ℕ → Result (Option ℕ) SwizzleFault → Type 0
Begins ks old new root bound result = (t : Tree (I ks)) → IsTree ks old root t → height t < bound
    → MatchResult result (λ found. IsLinked new found (item_name (next (λ a. Less) t None))) (IsFetchFault old.heap old.outside)
