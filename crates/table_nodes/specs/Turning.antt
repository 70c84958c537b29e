-- What a turn does, where a side of a node is higher by two, and what balancing a node does.
use Rattle.std.specs.Prelude.{ℕ, ◌+◌, ◌<◌, Option, Some}
use Rattle.avl_trees.specs.Trees.{Tree, height, node, lean_inner, lean_outer, lean_left, lean_right, balance}
use Rattle.node_rows.specs.Keys.{Keys}
use Rattle.node_rows.specs.Nodes.{I}
use Rattle.table_nodes.specs.Steps.{Place, AreSides, AreTurned, AreTurnedOut, StandsAt}
use Rattle.table_nodes.specs.Wings.{AreEnds, IsLeftWing, IsRightWing}
use Rattle.table_nodes.specs.declared.sides.Sides.{Sides}
use Rattle.table_nodes.specs.declared.wing.Wing.{Wing}

-- The left side goes up: what `lean_left` makes of the trees stands, where its wing is known.
abbrev pub TurnsRight : Place → Place → ℕ → ℕ → Option ℕ → Wing → ℕ → Type 0
TurnsRight old new at left right wing root = (ks : Keys) (l : Tree (I ks)) (a : I ks) (r : Tree (I ks)) → AreSides ks old at (Some left) right l a r → height r + 1 < height l → IsLeftWing old.heap wing l
    → StandsAt ks old new (node l a r) (lean_left l a r) root

abbrev pub TurnsLeft : Place → Place → ℕ → Option ℕ → ℕ → Wing → ℕ → Type 0
TurnsLeft old new at left right wing root = (ks : Keys) (l : Tree (I ks)) (a : I ks) (r : Tree (I ks)) → AreSides ks old at left (Some right) l a r → height l + 1 < height r → IsRightWing old.heap wing r
    → StandsAt ks old new (node l a r) (lean_right l a r) root

-- The right side of the left side goes up, where its sides are known.
abbrev pub TurnsInner : Place → Place → ℕ → ℕ → Option ℕ → Sides → Option Sides → ℕ → Type 0
TurnsInner old new at left right sides ends root = (ks : Keys) (x : Tree (I ks)) (b : I ks) (y : Tree (I ks)) (a : I ks) (r : Tree (I ks)) → AreTurned ks old at left sides.left sides.right right x b y a r → AreEnds old.heap ends y
    → StandsAt ks old new (node (node x b y) a r) (lean_inner x b y a r) root

abbrev pub TurnsOuter : Place → Place → ℕ → Option ℕ → ℕ → Sides → Option Sides → ℕ → Type 0
TurnsOuter old new at left right sides ends root = (ks : Keys) (l : Tree (I ks)) (a : I ks) (x : Tree (I ks)) (b : I ks) (y : Tree (I ks)) → AreTurnedOut ks old at right left sides.left sides.right l a x b y → AreEnds old.heap ends x
    → StandsAt ks old new (node l a (node x b y)) (lean_outer l a x b y) root

-- What `balance` makes of two trees and a node between them stands, where the wing of a side that is higher by two is known.
abbrev pub Balances : Place → Place → ℕ → Option ℕ → Option ℕ → Wing → ℕ → Type 0
Balances old new at left right wing root = (ks : Keys) (l : Tree (I ks)) (a : I ks) (r : Tree (I ks)) → AreSides ks old at left right l a r
    → (height r + 1 < height l → IsLeftWing old.heap wing l) → (height l + 1 < height r → IsRightWing old.heap wing r)
    → StandsAt ks old new (node l a r) (balance l a r) root
