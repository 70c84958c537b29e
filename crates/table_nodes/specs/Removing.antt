-- What taking a key out of a table's tree does to its nodes.
use Rattle.std.specs.Prelude.{◌≢◌, ℕ, ◌<◌, ◌≤◌, Option, Some, Result, IfOk, MatchResult}
use Rattle.heap_places.specs.swizzle.declared.fault.SwizzleFault.{SwizzleFault}
use Rattle.avl_trees.specs.Trees.{Tree, node, height, items, lookup, remove, least, rest, merge}
use Rattle.avl_trees.specs.Standing.{Becomes, Taken, root_of, seek}
use Rattle.node_rows.specs.Keys.{Keys, KeyOf, order_by}
use Rattle.table_nodes.specs.Nodes.{IsNamed, IsLinked, IsFetchFault}
use Rattle.node_rows.specs.Nodes.{I}
use Rattle.table_nodes.specs.Steps.{Place, IsPlace, StayBeside, rows_of}
use Rattle.table_nodes.specs.Fetching.{Fetches}
use Rattle.table_nodes.specs.Hanging.{Hangs}
use Rattle.table_nodes.specs.Searching.{IsTree}
use Rattle.table_nodes.specs.Entering.{is_missing}
use Rattle.table_nodes.specs.Spans.{IsWithin}
use Rattle.table_nodes.specs.declared.span.Span.{Span}
use Rattle.table_nodes.specs.declared.remove.Least.{Least}
use Rattle.table_nodes.specs.declared.remove.Removed.{Removed}

-- The least node was taken out: this one, and so much is left. What is new in the area came from the vault.
pub record IsTaken (ks : Keys) (old new : Place) (l : Tree (I ks)) (a : I ks) (r : Tree (I ks)) (found : Least) : Type 0 where
  pub taken : Taken (rows_of ks old) (rows_of ks new) (items (node l a r)) (least l a) (rest l a r)
  pub here : IsPlace new
  pub node_is : IsNamed new.heap found.node (least l a).name
  pub rest_is : IsLinked new.heap found.rest (root_of (rest l a r))
  pub others : StayBeside ks old new (items (node l a r))
  pub hangs : Hangs ks old.heap new.heap old.outside (node l a r) (rest l a r)
  pub fetched : Fetches ks old.heap new.heap old.outside

abbrev pub TakesLeast : Place → Place → ℕ → ℕ → Result Least SwizzleFault → Type 0
TakesLeast old new at bound result = (ks : Keys) (l : Tree (I ks)) (a : I ks) (r : Tree (I ks)) → IsPlace old → IsTree ks old (Some at) (node l a r) → height (node l a r) < bound
    → MatchResult result (IsTaken ks old new l a r) (IsFetchFault old.heap old.outside)

-- A tree has become another one, which stands now, from the place on that was answered, or nowhere where it is empty. What is new in the area came from the vault.
pub record Leaves (ks : Keys) (old new : Place) (before t : Tree (I ks)) (root : Option ℕ) : Type 0 where
  pub becomes : Becomes (rows_of ks old) (rows_of ks new) (items before) t
  pub here : IsPlace new
  pub root_is : IsLinked new.heap root (root_of t)
  pub others : StayBeside ks old new (items before)
  pub hangs : Hangs ks old.heap new.heap old.outside before t
  pub fetched : Fetches ks old.heap new.heap old.outside

abbrev pub Merges : Place → Place → Option ℕ → Option ℕ → ℕ → Result (Option ℕ) SwizzleFault → Type 0
Merges old new left right bound result = (ks : Keys) (at : ℕ) (l : Tree (I ks)) (a : I ks) (r : Tree (I ks)) → IsPlace old → IsTree ks old (Some at) (node l a r)
    → IsLinked old.heap left (root_of l) → IsLinked old.heap right (root_of r) → height (node l a r) ≤ bound
    → MatchResult result (Leaves ks old new (node l a r) (merge l r)) (IsFetchFault old.heap old.outside)

-- The tree without the key stands now, or a reference's object couldn't be fetched.
abbrev pub Removes : (ks : Keys) → Place → Place → Option ℕ → ℕ → KeyOf ks → Span → Result Removed SwizzleFault → Type 0
Removes ks old new root bound key span result = (t : Tree (I ks)) → IsPlace old → IsTree ks old root t → IsWithin ks old.heap span (items t) → height t < bound
    → MatchResult result (λ removed. Leaves ks old new t (remove (seek (order_by ks) key) t) removed.root) (IsFetchFault old.heap old.outside)

-- It is told whether the tree had the key.
abbrev pub IsGoneAt : (ks : Keys) → Place → Option ℕ → ℕ → KeyOf ks → Span → Result Removed SwizzleFault → Type 0
IsGoneAt ks old root bound key span result = (t : Tree (I ks)) → IsTree ks old root t → IsWithin ks old.heap span (items t) → height t < bound → IfOk result (λ removed. removed.gone ≢ is_missing (lookup (seek (order_by ks) key) t))
