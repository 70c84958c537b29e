use Rattle.std.proofs.Common.{Option, ℕ, sym, subst}
use Rattle.table_nodes.specs.node_rows.Keys.{by_texts}
use Rattle.table_nodes.specs.Steps.{place}
use Rattle.table_lib.specs.Nexts.{FindsNode, after_key, string_of}
use Rattle.table_lib.proofs.next.text_node.Goals as goal

pub returns-in-Some-clause-found : goal.returns-in-Some-clause-found
returns-in-Some-clause-found g c =
    let old = place c.args.sw.now (g.V.Vault.outside c.args.vault.now) in
    let new = place c.node_above.new.sw (g.V.Vault.outside c.node_above.new.vault) in
    subst (λ (a : Option ℕ). FindsNode by_texts old new c.args.table (after_key by_texts (string_of c.args.sw.now a)) c.node_above.result) (sym c.in-Some.is) c.node_above.ensures.found

pub returns-in-None-clause-found : goal.returns-in-None-clause-found
returns-in-None-clause-found g c =
    let old = place c.args.sw.now (g.V.Vault.outside c.args.vault.now) in
    let new = place c.least_node.new.sw (g.V.Vault.outside c.least_node.new.vault) in
    subst (λ (a : Option ℕ). FindsNode by_texts old new c.args.table (after_key by_texts (string_of c.args.sw.now a)) c.least_node.result) (sym c.in-None.is) c.least_node.ensures.found
