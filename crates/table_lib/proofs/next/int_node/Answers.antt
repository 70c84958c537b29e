use Rattle.std.proofs.Common.{◌≡◌, true, Option, Some, IfSome, ℤ, sym, subst}
use Rattle.table_nodes.specs.heap_places.ps_heap.Operators.{is_int}
use Rattle.table_nodes.specs.node_rows.Keys.{by_ints}
use Rattle.table_nodes.specs.Steps.{place}
use Rattle.table_nodes.proofs.SoughtLaws.{int_same}
use Rattle.table_lib.specs.Nexts.{FindsNode, after_key}
use Rattle.table_lib.proofs.next.int_node.Goals as goal

pub returns-in-Some-clause-found : goal.returns-in-Some-clause-found
returns-in-Some-clause-found g c =
    let old = place c.args.sw.now (g.V.Vault.outside c.args.vault.now) in
    let new = place c.node_above.new.sw (g.V.Vault.outside c.node_above.new.vault) in
    let fits = subst (λ (a : Option ℤ). IfSome a (λ key. is_int key ≡ true)) c.in-Some.is c.requires.after in
    subst (λ (a : Option ℤ). FindsNode by_ints old new c.args.table (after_key by_ints a) c.node_above.result) (sym c.in-Some.is)
    (subst (λ (k : ℤ). FindsNode by_ints old new c.args.table (after_key by_ints (Some k)) c.node_above.result) (int_same c.in-Some.key fits) c.node_above.ensures.found)

pub returns-in-None-clause-found : goal.returns-in-None-clause-found
returns-in-None-clause-found g c =
    let old = place c.args.sw.now (g.V.Vault.outside c.args.vault.now) in
    let new = place c.least_node.new.sw (g.V.Vault.outside c.least_node.new.vault) in
    subst (λ (a : Option ℤ). FindsNode by_ints old new c.args.table (after_key by_ints a) c.least_node.result) (sym c.in-None.is) c.least_node.ensures.found
