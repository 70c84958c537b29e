-- How the height of a tree changes where an item enters it or is removed.
use Rattle.std.specs.Prelude.{◌+◌, ◌≤◌}
use Rattle.avl_trees.specs.Trees.{Tree, height, IsBalanced}

-- a tree that is balanced and as high as another, or one higher
pub record Grown {A : Type 0} (old new : Tree A) : Type 0 where
  pub balanced : IsBalanced new
  pub low : height old ≤ height new
  pub high : height new ≤ height old + 1

-- a tree that is balanced and as high as another, or one lower
pub record Shrunk {A : Type 0} (old new : Tree A) : Type 0 where
  pub balanced : IsBalanced new
  pub low : height new ≤ height old
  pub high : height old ≤ height new + 1
