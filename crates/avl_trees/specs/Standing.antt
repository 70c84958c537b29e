-- Nodes that are seen stand for a tree. What is seen is told by a relation: a node of this name has this row.
use Rattle.std.specs.Prelude.{◌≡◌, ◌≢◌, ℕ, List, ◌∷◌, ◌++◌, Option, Some, None}
use Rattle.std.specs.List.{AllByRecursion}
use Rattle.std.specs.declared.cmp.Ordering.{Ordering}
use Rattle.std.specs.declared.cmp.Ordering.TheVariants.{Less}
use Rattle.avl_trees.specs.Rising.{AreRising}
use Rattle.avl_trees.specs.Trees.{Tree, leaf, node, height, items}

pub record Entry (K V : Type 0) : Type 0 where
  pub key : K
  pub value : V

-- a node's name and its entry
pub record Item (N K V : Type 0) : Type 0 where
  pub name : N
  pub entry : Entry K V

-- what is seen of a node: the names of its sides, its entry, and its height
pub record Row (N K V : Type 0) : Type 0 where
  pub left : Option N
  pub right : Option N
  pub entry : Entry K V
  pub height : ℕ

abbrev pub root_of : {N K V : Type 0} → Tree (Item N K V) → Option N
root_of leaf = None
root_of (node l a r) = Some a.name

-- the row of a node between its sides
abbrev pub row_of : {N K V : Type 0} → Tree (Item N K V) → Item N K V → Tree (Item N K V) → Row N K V
row_of l a r = record { left = root_of l; right = root_of r; entry = a.entry; height = height (node l a r) }

abbrev pub Rows : Type 0 → Type 0 → Type 0 → Type 1
Rows N K V = N → Row N K V → Type 0

-- what is seen where each name has at most one row
abbrev pub seen_by : {N K V : Type 0} → (N → Option (Row N K V)) → Rows N K V
seen_by rows name row = rows name ≡ Some row

-- each node has its row
abbrev pub Stands : {N K V : Type 0} → Rows N K V → Tree (Item N K V) → Type 0
Stands rows leaf = Unit {0}
Stands rows (node l a r) = rows a.name (row_of l a r) × Stands rows l × Stands rows r

-- a name has one row
abbrev pub IsOne : {N K V : Type 0} → Rows N K V → Type 0
IsOne {N} {K} {V} rows = (n : N) (a b : Row N K V) → rows n a → rows n b → a ≡ b

-- the keys rise
abbrev pub under : {N K V : Type 0} → (K → K → Ordering) → Item N K V → Item N K V → Type 0
under cmp a b = cmp a.entry.key b.entry.key ≡ Less

-- where a key belongs
abbrev pub seek : {N K V : Type 0} → (K → K → Ordering) → K → Item N K V → Ordering
seek cmp key a = cmp key a.entry.key

abbrev pub IsRising : {N K V : Type 0} → (K → K → Ordering) → Tree (Item N K V) → Type 0
IsRising cmp t = AreRising (under cmp) (items t)

-- the name isn't among these
abbrev pub IsApart : {N K V : Type 0} → N → List (Item N K V) → Type 0
IsApart n is = AllByRecursion (λ a. a.name ≢ n) is

-- some row of the name has the entry
pub record Has {N K V : Type 0} (rows : Rows N K V) (a : Item N K V) : Type 0 where
  pub row : Row N K V
  pub there : rows a.name row
  pub entry : row.entry ≡ a.entry

-- Two trees stand, and a node between them, and the keys rise from the one over the node to the other.
pub record Given {N K V : Type 0} (cmp : K → K → Ordering) (rows : Rows N K V) (l : Tree (Item N K V)) (a : Item N K V) (r : Tree (Item N K V)) : Type 0 where
  pub left : Stands rows l
  pub has : Has rows a
  pub right : Stands rows r
  pub rising : AreRising (under cmp) (items l ++ a ∷ items r)

-- The tree stands now, and all nodes but these have the rows that they had.
pub record Becomes {N K V : Type 0} (old new : Rows N K V) (is : List (Item N K V)) (t : Tree (Item N K V)) : Type 0 where
  pub stands : Stands new t
  pub stays : (n : N) (row : Row N K V) → IsApart n is → old n row → new n row

-- The least of these items was taken out of their tree: its node has the entry that it had, and the others stand.
pub record Taken {N K V : Type 0} (old new : Rows N K V) (is : List (Item N K V)) (m : Item N K V) (t : Tree (Item N K V)) : Type 0 where
  pub has : Has new m
  pub becomes : Becomes old new is t

-- one name has this row now, and all others keep theirs
pub record IsWritten {N K V : Type 0} (old : Rows N K V) (name : N) (row : Row N K V) (new : Rows N K V) : Type 0 where
  pub there : new name row
  pub alone : (other : Row N K V) → new name other → other ≡ row
  pub stays : (n : N) (other : Row N K V) → n ≢ name → old n other → new n other
  pub back : (n : N) (other : Row N K V) → n ≢ name → new n other → old n other

-- the item with another value, and a new item
abbrev pub put : {N K V : Type 0} → V → Item N K V → Item N K V
put value a = record { name = a.name; entry = record { key = a.entry.key; value = value } }

abbrev pub fresh_item : {N K V : Type 0} → N → K → V → Item N K V
fresh_item name key value = record { name = name; entry = record { key = key; value = value } }
