-- What a turn looks at: the sides of the side that goes up, and those of its own inner side.
use Rattle.std.specs.Prelude.{ℕ, ◌<◌, Option, Some, None, Result, IfSome, MatchResult}
use Rattle.heap_places.specs.obj_layout.declared.reference.Reference.{Reference}
use Rattle.heap_places.specs.swizzle.declared.fault.SwizzleFault.{SwizzleFault}
use Rattle.heap_places.specs.swizzle.Heap.{Heap}
use Rattle.avl_trees.specs.Trees.{Tree, leaf, node, height}
use Rattle.avl_trees.specs.Standing.{Item, Stands, root_of}
use Rattle.node_rows.specs.Keys.{Keys}
use Rattle.table_nodes.specs.Nodes.{IsNode, IsNamed, IsLinked, IsFetchFault}
use Rattle.node_rows.specs.Nodes.{I}
use Rattle.table_nodes.specs.Steps.{Place, rows_of}
use Rattle.table_nodes.specs.declared.sides.Sides.{Sides}
use Rattle.table_nodes.specs.declared.wing.Wing.{Wing}
use Rattle.table_nodes.specs.declared.ready.Ready.{Ready}

-- these sides are nodes of the area
abbrev pub AreHeld : Heap → Sides → Type 0
AreHeld heap sides = IfSome sides.left (IsNode heap) × IfSome sides.right (IsNode heap)

abbrev pub IsWingHeld : Heap → Wing → Type 0
IsWingHeld heap wing = IfSome wing.sides (AreHeld heap) × IfSome wing.left (AreHeld heap) × IfSome wing.right (AreHeld heap)

-- the sides of a tree's root are known, if it has one
abbrev pub AreEnds : {K : Type 0} → Heap → Option Sides → Tree (Item Reference K Reference) → Type 0
AreEnds heap sides leaf = Unit {0}
AreEnds heap None (node x b y) = ⊥
AreEnds heap (Some sides) (node x b y) = IsLinked heap sides.left (root_of x) × IsLinked heap sides.right (root_of y)

-- Where a left side goes up, its sides are known, and those of its right side, where that is the higher one.
abbrev pub IsLeftWing : {K : Type 0} → Heap → Wing → Tree (Item Reference K Reference) → Type 0
IsLeftWing heap wing leaf = Unit {0}
IsLeftWing heap wing (node x b y) = AreEnds heap wing.sides (node x b y) × (height x < height y → AreEnds heap wing.right y)

-- and where a right side goes up, likewise
abbrev pub IsRightWing : {K : Type 0} → Heap → Wing → Tree (Item Reference K Reference) → Type 0
IsRightWing heap wing leaf = Unit {0}
IsRightWing heap wing (node x b y) = AreEnds heap wing.sides (node x b y) × (height y < height x → AreEnds heap wing.left x)

-- The sides of a node that stands are answered, or they couldn't be fetched.
abbrev pub OpensEnds : Place → Heap → ℕ → Result Sides SwizzleFault → Type 0
OpensEnds old new at result = (ks : Keys) (x : Tree (I ks)) (b : I ks) (y : Tree (I ks)) → Stands (rows_of ks old) (node x b y) → IsNamed old.heap at b.name
    → MatchResult result (λ sides. AreEnds new (Some sides) (node x b y)) (IsFetchFault old.heap old.outside)

-- Of two sides, those of the second one are answered where it is higher than the first.
abbrev pub OpensInner : Place → Heap → Option ℕ → Option ℕ → Result (Option Sides) SwizzleFault → Type 0
OpensInner old new outer inner result = (ks : Keys) (x y : Tree (I ks)) → Stands (rows_of ks old) x → Stands (rows_of ks old) y → IsLinked old.heap outer (root_of x) → IsLinked old.heap inner (root_of y)
    → MatchResult result (λ ends. height x < height y → AreEnds new ends y) (IsFetchFault old.heap old.outside)

-- Of two sides that are lower than the node between them, what a turn looks at where the second one goes up, if it is the higher one.
abbrev pub OpensWing : ((ks : Keys) → Heap → Wing → Tree (I ks) → Type 0) → Place → Heap → Option ℕ → Option ℕ → ℕ → Result Ready SwizzleFault → Type 0
OpensWing is old new low high bound result = (ks : Keys) (l r : Tree (I ks)) → Stands (rows_of ks old) l → Stands (rows_of ks old) r → IsLinked old.heap low (root_of l) → IsLinked old.heap high (root_of r)
    → height l < bound → height r < bound → MatchResult result (λ ready. (height l < height r → is ks new ready.wing r) × (height l < ready.bound)) (IsFetchFault old.heap old.outside)
