-- What a turn looks at, as nodes keep their names.
use Rattle.std.proofs.Common.{◌≡◌, ℕ, Option, Some, None, IfSome, subst}
use Rattle.heap_places.specs.obj_layout.declared.reference.Reference.{Reference}
use Rattle.heap_places.specs.swizzle.Heap.{Heap}
use Rattle.avl_trees.specs.Trees.{Tree, leaf, node}
use Rattle.avl_trees.specs.Standing.{Item, root_of}
use Rattle.table_nodes.specs.Nodes.{IsNamed, IsNode}
use Rattle.table_nodes.specs.Wings.{AreEnds, AreHeld, IsLeftWing, IsRightWing, IsWingHeld}
use Rattle.table_nodes.specs.declared.sides.Sides.{Sides}
use Rattle.table_nodes.specs.declared.wing.Wing.{Wing}
use Rattle.table_nodes.proofs.StepLaws.{linked_kept, side_map}

module _ {K : Type 0} (a b : Heap) (f : (at : ℕ) (n : Reference) → IsNamed a at n → IsNamed b at n) where
  pub ends_kept : (sides : Option Sides) (t : Tree (Item Reference K Reference)) → AreEnds a sides t → AreEnds b sides t
  ends_kept sides leaf k = tt
  ends_kept None (node x i y) k = k
  ends_kept (Some sides) (node x i y) k = (linked_kept a b f sides.left (root_of x) k.0, linked_kept a b f sides.right (root_of y) k.1)

  pub left_wing_kept : (wing : Wing) (t : Tree (Item Reference K Reference)) → IsLeftWing a wing t → IsLeftWing b wing t
  left_wing_kept wing leaf k = tt
  left_wing_kept wing (node x i y) k = (ends_kept wing.sides (node x i y) k.0, λ lower. ends_kept wing.right y (k.1 lower))

  pub right_wing_kept : (wing : Wing) (t : Tree (Item Reference K Reference)) → IsRightWing a wing t → IsRightWing b wing t
  right_wing_kept wing leaf k = tt
  right_wing_kept wing (node x i y) k = (ends_kept wing.sides (node x i y) k.0, λ lower. ends_kept wing.left x (k.1 lower))

-- the sides of a side whose wing is known
pub left_ends : {K : Type 0} (heap : Heap) (wing : Wing) (t : Tree (Item Reference K Reference)) → IsLeftWing heap wing t → AreEnds heap wing.sides t
left_ends heap wing leaf k = tt
left_ends heap wing (node x i y) k = k.0

pub right_ends : {K : Type 0} (heap : Heap) (wing : Wing) (t : Tree (Item Reference K Reference)) → IsRightWing heap wing t → AreEnds heap wing.sides t
right_ends heap wing leaf k = tt
right_ends heap wing (node x i y) k = k.0

-- of nothing that was opened nothing is known
pub no_ends : {K : Type 0} (heap : Heap) (sides : Option Sides) (x : Tree (Item Reference K Reference)) (i : Item Reference K Reference) (y : Tree (Item Reference K Reference)) → sides ≡ None → AreEnds heap sides (node x i y) → ⊥
no_ends heap sides x i y e k = subst (λ s. AreEnds heap s (node x i y)) e k

pub the_ends : {K : Type 0} (heap : Heap) (sides : Option Sides) (ends : Sides) (t : Tree (Item Reference K Reference)) → sides ≡ Some ends → AreEnds heap sides t → AreEnds heap (Some ends) t
the_ends heap sides ends t e k = subst (λ s. AreEnds heap s t) e k

pub held_kept : (a b : Heap) → ((at : ℕ) → IsNode a at → IsNode b at) → (sides : Sides) → AreHeld a sides → AreHeld b sides
held_kept a b f sides h = (side_map (IsNode a) (IsNode b) f sides.left h.0, side_map (IsNode a) (IsNode b) f sides.right h.1)

ends_held : (a b : Heap) → ((at : ℕ) → IsNode a at → IsNode b at) → (sides : Option Sides) → IfSome sides (AreHeld a) → IfSome sides (AreHeld b)
ends_held a b f None h = tt
ends_held a b f (Some sides) h = held_kept a b f sides h

pub wing_held_kept : (a b : Heap) → ((at : ℕ) → IsNode a at → IsNode b at) → (wing : Wing) → IsWingHeld a wing → IsWingHeld b wing
wing_held_kept a b f wing h = (ends_held a b f wing.sides h.0, ends_held a b f wing.left h.1, ends_held a b f wing.right h.2)
