-- Which side of a tree is the higher one.
use Rattle.std.specs.Prelude.{◌≡◌, ℕ}
use Rattle.avl_trees.specs.Trees.{Tree, leaf, node, height}

-- One side is higher than the other, or there are none.
abbrev pub Leans : {A : Type 0} → Tree A → Type 0
Leans leaf = Unit {0}
Leans (node l a r) = height l ≡ height r → height r ≡ 0
