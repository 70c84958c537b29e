use Rattle.std.proofs.Common.{◌≡◌, length, reverse}
use Rattle.ps_base.specs.TyView.{Void, ty_view}
use Rattle.ps_tree.specs.PhraseLists.{phrases_in}
use Rattle.ps_program.specs.NodeView.{nodes_in}
use Rattle.ps_checker.specs.ps_scope.Content.{names_of}
use Rattle.ps_slots.specs.ps_typing.Checking.{check_all}
use Rattle.ps_checker.proofs.After.{after, after_nodes}
use Rattle.ps_slots.specs.inside.Sizes.{size_of, size_items}
use Rattle.ps_check.proofs.program.owned_items.Given as goal

-- the trees so far, and then those of the clauses that are left, are those of all; and so large are those so far
abbrev pub invariant-loop-item : goal.invariant-loop-item
invariant-loop-item l = record {
  checked :
      after (after_nodes l.trees.items) (check_all (names_of l.checker.scope) l.line (ty_view l.last) (phrases_in (reverse l.rest.items)))
      ≡ check_all (names_of l.initial.checker.scope) l.initial.line Void (phrases_in (reverse l.initial.rest.items));
  sized : size_of l.sizes ≡ size_items (nodes_in l.trees.items);
}

abbrev pub decreases-loop-item : goal.decreases-loop-item
decreases-loop-item l = length l.rest.items
