-- The least key of the tree is that of the part that is left, which is lower than the bound, or else that of the last node.
use Rattle.std.proofs.Common.{◌-◌, ◌≤◌, ◌<◌, IfSome}
use Rattle.std.specs.declared.cmp.Ordering.TheVariants.{Less}
use Rattle.heap_places.specs.obj_layout.Storing.{SameNumbers}
use Rattle.heap_places.specs.swizzle.Touch.{Keeps}
use Rattle.avl_trees.specs.Trees.{Tree, height}
use Rattle.table_nodes.specs.Bringing.{Brings}
use Rattle.table_nodes.specs.Fetching.{Arrives}
use Rattle.table_nodes.specs.Nodes.{IsNode, Grows}
use Rattle.table_nodes.specs.Searching.{IsTree}
use Rattle.table_nodes.specs.Sought.{keys_of}
use Rattle.table_nodes.specs.Spans.{IsSpan}
use Rattle.node_rows.specs.Nodes.{I}
use Rattle.table_nodes.specs.Steps.{place}
use Rattle.table_nodes.proofs.FollowLaws.{Following}
use Rattle.table_nodes.proofs.follow.first.Given as goal

abbrev pub invariant-loop-at : goal.invariant-loop-at
invariant-loop-at g l =
    let ks = keys_of l.keys in
    let old = place l.initial.sw (g.V.Vault.outside l.initial.vault) in
    let now = place l.sw (g.V.Vault.outside l.vault) in
    record {
      node : IfSome l.at (IsNode l.sw);
      last : IfSome l.last (IsNode l.sw);
      span : IsSpan l.sw l.span;
      keeps : Keeps l.initial.sw l.sw;
      grows : Grows l.initial.sw l.sw (g.V.Vault.outside l.initial.vault) (g.V.Vault.outside l.vault);
      some : 1 ≤ l.bound;
      within : l.bound ≤ l.initial.bound;
      brings : Brings l.initial.sw l.sw (l.initial.bound - l.bound);
      alive : g.V.Vault.alive l.vault;
      numbers : SameNumbers g.V.Vault.used_words g.V.Vault.directory_at g.V.Vault.most_words g.V.Vault.access l.initial.vault l.vault;
      fetched : (t : Tree (I ks)) → IsTree ks old l.fn.root t → height t < l.initial.bound → Arrives l.initial.sw l.sw (g.V.Vault.outside l.initial.vault);
      begins : (t : Tree (I ks)) → IsTree ks old l.fn.root t → height t < l.initial.bound → Following ks (λ a. Less) now l.at l.last l.span l.bound t;
    }

abbrev pub decreases-loop-at : goal.decreases-loop-at
decreases-loop-at g l = l.bound
