-- What a search in a table's tree answers.
use Rattle.std.specs.Prelude.{◌≡◌, ◌≢◌, ◌⊎◌, ℕ, ◌<◌, Option, Some, None, Result, IfSome, MatchResult, ◌+◌, OnOk, List}
use Rattle.std.specs.List.{AllByRecursion}
use Rattle.std.specs.declared.cmp.Ordering.{Ordering}
use Rattle.std.specs.declared.cmp.Ordering.TheVariants.{Less, Equal, Greater}
use Rattle.heap_places.specs.ps_outside.Outside.{Outside}
use Rattle.heap_places.specs.obj_layout.Stored.{Space}
use Rattle.heap_places.specs.obj_layout.declared.reference.Reference.{Reference}
use Rattle.heap_places.specs.obj_layout.declared.reference.Reference.TheVariants.{Nil}
use Rattle.heap_places.specs.swizzle.declared.fault.SwizzleFault.{SwizzleFault}
use Rattle.heap_places.specs.swizzle.Heap.{Heap, IsHeld}
use Rattle.heap_places.specs.swizzle.Joint.{name_at}
use Rattle.avl_trees.specs.Rising.{pick}
use Rattle.avl_trees.specs.Trees.{Tree, leaf, node, height, items, IsBalanced, lookup}
use Rattle.avl_trees.specs.Standing.{Item, Stands, IsRising, root_of, seek}
use Rattle.node_rows.specs.Keys.{Keys, KeyOf, order_by}
use Rattle.node_rows.specs.Nodes.{Seat, I, HasValue}
use Rattle.heap_places.specs.swizzle.Changes.{IsKnown}
use Rattle.table_nodes.specs.Nodes.{IsNode, IsNamed, IsLinked, IsFetchFault, rows_in, seen}
use Rattle.table_nodes.specs.Steps.{Place, rows_of}
use Rattle.table_nodes.specs.Spans.{HasSought, IsSpan, IsWithin}
use Rattle.table_nodes.specs.declared.keys.Key.{Key}
use Rattle.table_nodes.specs.declared.span.Span.{Span}
use Rattle.table_nodes.specs.declared.search.Step.{Step}
use Rattle.table_nodes.specs.declared.search.Step.TheVariants.{Found, Down}

-- From this place on a search tree stands, and each of its keys has a value.
pub record IsTree (ks : Keys) (p : Place) (root : Option ℕ) (t : Tree (I ks)) : Type 0 where
  pub stands : Stands (rows_of ks p) t
  pub root_is : IsLinked p.heap root (root_of t)
  pub rising : IsRising (order_by ks) t
  pub balanced : IsBalanced t
  pub values : AllByRecursion HasValue (items t)

-- the value of an item
abbrev pub value_of : {K : Type 0} → Option (Item Reference K Reference) → Option Reference
value_of None = None
value_of (Some a) = Some a.entry.value

-- the object of the area that has the name, or none where there is no name
abbrev pub IsObject : Heap → Option ℕ → Option Reference → Type 0
IsObject heap None None = Unit {0}
IsObject heap (Some at) (Some n) = IsHeld heap at × (name_at heap at ≡ n)
IsObject heap _ _ = ⊥

-- the values of these pairs are seen
abbrev pub AreSeen : (ks : Keys) → Heap → Outside Space → List (I ks) → Type 0
AreSeen ks heap outside is = AllByRecursion (λ a. IsKnown (seen heap outside) a.entry.value) is

-- The object of a node's value is answered, or it couldn't be fetched; where it is seen, it isn't damaged.
abbrev pub ReadsValue : Heap → Heap → Outside Space → ℕ → Result ℕ SwizzleFault → Type 0
ReadsValue old new outside at result = (ks : Keys) (n : Reference) (row : Seat ks) → IsNamed old at n → rows_in ks old outside n row → row.entry.value ≢ Nil
    → MatchResult result (λ value. name_at new value ≡ row.entry.value) (λ fault. IsKnown (seen old outside) row.entry.value → IsFetchFault old outside fault)

-- at a node, the key was found, or it is sought on this side
abbrev pub IsStep : (ks : Keys) → Heap → KeyOf ks → Tree (I ks) → I ks → Tree (I ks) → Step → Type 0
IsStep ks heap key x b y Found = order_by ks key b.entry.key ≡ Equal
IsStep ks heap key x b y (Down way) =
    ((order_by ks key b.entry.key ≡ Less) × IsLinked heap way.side (root_of x) × IsWithin ks heap way.span (items x))
    ⊎ ((order_by ks key b.entry.key ≡ Greater) × IsLinked heap way.side (root_of y) × IsWithin ks heap way.span (items y))

abbrev pub StepsAt : (ks : Keys) → Place → Heap → ℕ → KeyOf ks → Span → Result Step SwizzleFault → Type 0
StepsAt ks old new at key span result = (x : Tree (I ks)) (b : I ks) (y : Tree (I ks)) → Stands (rows_of ks old) (node x b y) → IsNamed old.heap at b.name
    → IsRising (order_by ks) (node x b y) → IsWithin ks old.heap span (items (node x b y)) → MatchResult result (IsStep ks new key x b y) (IsFetchFault old.heap old.outside)

-- A node where a key was found has it; a side where it is sought is a node of the area, and the ends of the span there are keys of nodes.
abbrev pub IsDown : Heap → ℕ → Key → Step → Type 0
IsDown heap at key Found = HasSought heap at key
IsDown heap at key (Down way) = IfSome way.side (IsNode heap) × IsSpan heap way.span

-- The value of a key in a tree that is lower than the bound is answered, none where the tree hasn't the key, or an object couldn't be fetched; where the
-- values are seen, none is damaged.
abbrev pub Finds : (ks : Keys) → Place → Heap → Option ℕ → ℕ → KeyOf ks → Result (Option ℕ) SwizzleFault → Type 0
Finds ks old new root bound key result = (t : Tree (I ks)) → IsTree ks old root t → height t < bound
    → MatchResult result (λ found. IsObject new found (value_of (lookup (seek (order_by ks) key) t))) (λ fault. AreSeen ks old.heap old.outside (items t) → IsFetchFault old.heap old.outside fault)

-- how many nodes the search for a key looks at
unfoldable pub looks : {A : Type 0} → (A → Ordering) → Tree A → ℕ
looks probe leaf = 0
looks probe (node l a r) = 1 + pick (probe a) (looks probe l) 0 (looks probe r)

-- Each node that was looked at was a step.
abbrev pub Charges : (ks : Keys) → Place → Option ℕ → ℕ → KeyOf ks → ℕ → ℕ → Result (Option ℕ) SwizzleFault → Type 0
Charges ks old root bound key before after result = (t : Tree (I ks)) → IsTree ks old root t → height t < bound → OnOk result (after ≡ before + looks (seek (order_by ks) key) t)

-- how many nodes come at a step, at most
abbrev pub came_by : Step → ℕ
came_by Found = 0
came_by (Down way) = 1
