use Rattle.std.proofs.Common.{◌∙◌, ap, arith, subst, sym, Ok, Err}
use Rattle.avl_trees.specs.Trees.{items, node}
use Rattle.avl_trees.specs.Standing.{row_of}
use Rattle.node_rows.specs.Keys.{order_by}
use Rattle.table_nodes.specs.Sought.{key_in, kind_of}
use Rattle.table_nodes.specs.Spans.{ReadsKey}
use Rattle.table_nodes.specs.Steps.{place}
use Rattle.table_nodes.proofs.BringLaws.{brings_more}
use Rattle.table_nodes.proofs.SoughtLaws.{key_held_kept, key_in_kept}
use Rattle.table_nodes.proofs.SpanLaws.{keys_ordered, narrow_span, not_outside, placed_at, sought_is, span_failed, span_kept, within_kept}
use Rattle.table_nodes.specs.Fetching.{FetchesKey}
use Rattle.table_nodes.proofs.placing.place_key.Goals as goal

pub returns-in-Err-clause-placed : goal.returns-in-Err-clause-placed
returns-in-Err-clause-placed g c x b y s named rising within =
    let p = place c.args.sw.now (g.V.Vault.outside c.args.vault.now) in
    subst (λ k. ReadsKey k p c.key_of.new.sw c.args.at (Err c.in-Err.fault)) c.kind_of_key.ensures c.in-Err.ensures.read b.name (row_of x b y) named s.0

pub returns-in-Ok-check_span-clause-placed : goal.returns-in-Ok-check_span-clause-placed
returns-in-Ok-check_span-clause-placed g c x b y s named rising within =
    let ks = kind_of c.args.key in
    let p = place c.args.sw.now (g.V.Vault.outside c.args.vault.now) in
    let m = c.key_of.new.sw in
    let own_is = subst (λ k. ReadsKey k p m c.args.at (Ok c.in-Ok.own)) c.kind_of_key.ensures c.in-Ok.ensures.read b.name (row_of x b y) named s.0 in
    let there = within_kept ks c.args.sw.now m c.args.span (items (node x b y)) c.in-Ok.ensures.keeps c.requires.span within in
    let order = c.compare_keys-order.ensures ∙ (keys_ordered ks m c.args.key c.in-Ok.own (key_in m c.args.key) b.entry.key (sought_is m c.args.key) own_is
    ∙ ap (λ k. order_by ks k b.entry.key) (key_in_kept c.args.sw.now m c.args.key c.in-Ok.ensures.keeps c.requires.key)) in
    placed_at ks m c.args.span c.in-Ok.own x b y there own_is (key_in c.args.sw.now c.args.key) c.compare_keys-order.result c.narrowed.result rising order c.narrowed.ensures

pub returns-in-Err-check_span-clause-placed : goal.returns-in-Err-check_span-clause-placed
returns-in-Err-check_span-clause-placed g c x b y s named rising within =
    let ks = kind_of c.args.key in
    let p = place c.args.sw.now (g.V.Vault.outside c.args.vault.now) in
    let m = c.key_of.new.sw in
    let own_is = subst (λ k. ReadsKey k p m c.args.at (Ok c.in-Ok.own)) c.kind_of_key.ensures c.in-Ok.ensures.read b.name (row_of x b y) named s.0 in
    let there = within_kept ks c.args.sw.now m c.args.span (items (node x b y)) c.in-Ok.ensures.keeps c.requires.span within in
    absurd (not_outside ks m c.args.span c.in-Ok.own x b y there own_is c.args.at c.compare_keys-order.result c.in-Err-check_span.fault c.in-Err-check_span.ensures.less c.in-Err-check_span.ensures.other)

pub returns-in-Ok-check_span-clause-span : goal.returns-in-Ok-check_span-clause-span
returns-in-Ok-check_span-clause-span g c =
    narrow_span c.key_of.new.sw c.compare_keys-order.result c.args.at c.in-Ok.own c.args.span c.narrowed.result c.narrowed.ensures c.in-Ok.ensures.has (span_kept c.args.sw.now c.key_of.new.sw c.args.span c.in-Ok.ensures.keeps c.requires.span)

pub returns-in-Ok-check_span-clause-equal : goal.returns-in-Ok-check_span-clause-equal
returns-in-Ok-check_span-clause-equal g c e = record { own = c.in-Ok.own; has = c.in-Ok.ensures.has; same = sym c.compare_keys-order.ensures ∙ e }

pub returns-in-Err-check_span-clause-fault : goal.returns-in-Err-check_span-clause-fault
returns-in-Err-check_span-clause-fault g c =
    span_failed _ _ c.key_of.new.sw c.args.at c.compare_keys-order.result c.in-Ok.own c.args.span c.in-Err-check_span.fault c.in-Ok.ensures.has (span_kept c.args.sw.now c.key_of.new.sw c.args.span c.in-Ok.ensures.keeps c.requires.span)
    c.in-Err-check_span.ensures.less c.in-Err-check_span.ensures.other

pub returns-in-Err-check_span-clause-brings : goal.returns-in-Err-check_span-clause-brings
returns-in-Err-check_span-clause-brings g c = brings_more _ _ 0 1 (omega arith) c.in-Ok.ensures.brings

pub compare_keys-order-requires-clause-key : goal.compare_keys-order-requires-clause-key
compare_keys-order-requires-clause-key g c = key_held_kept c.args.sw.now c.key_of.new.sw c.args.key c.in-Ok.ensures.keeps c.requires.key

pub check_span-requires-clause-span : goal.check_span-requires-clause-span
check_span-requires-clause-span g c = span_kept c.args.sw.now c.key_of.new.sw c.args.span c.in-Ok.ensures.keeps c.requires.span

pub returns-in-Ok-check_span-clause-fetched : goal.returns-in-Ok-check_span-clause-fetched
returns-in-Ok-check_span-clause-fetched g c =
    let p = place c.args.sw.now (g.V.Vault.outside c.args.vault.now) in
    subst (λ k. FetchesKey k p c.key_of.new.sw c.args.at (Ok c.in-Ok.own)) c.kind_of_key.ensures c.in-Ok.ensures.fetched
