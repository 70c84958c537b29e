use Rattle.std.proofs.Common.{arith, subst, sym}
use Rattle.std.specs.declared.cmp.Ordering.TheVariants.{Less}
use Rattle.avl_trees.specs.Trees.{items, node}
use Rattle.avl_trees.specs.Standing.{row_of}
use Rattle.table_nodes.specs.Sought.{keys_of}
use Rattle.table_nodes.specs.Spans.{IsWithin}
use Rattle.table_nodes.proofs.BringLaws.{brings_more}
use Rattle.table_nodes.proofs.SpanLaws.{end_held, high_failed, narrow_span, not_above, span_kept, within_kept, within_left}
use Rattle.table_nodes.proofs.placing.narrow_left.Goals as goal

pub returns-in-Err-clause-narrowed : goal.returns-in-Err-clause-narrowed
returns-in-Err-clause-narrowed g c x b y s named rising within = c.in-Err.ensures.read b.name (row_of x b y) named s.0

pub returns-in-Ok-check_side-clause-narrowed : goal.returns-in-Ok-check_side-clause-narrowed
returns-in-Ok-check_side-clause-narrowed g c x b y s named rising within =
    let ks = keys_of c.args.keys in
    let m = c.key_of.new.sw in
    let there = within_kept ks c.args.sw.now m c.args.span (items (node x b y)) c.in-Ok.ensures.keeps c.requires.span within in
    subst (λ n. IsWithin ks m n (items x)) (sym c.narrowed.ensures) (within_left ks m c.args.span c.in-Ok.own x b y there (c.in-Ok.ensures.read b.name (row_of x b y) named s.0) rising)

pub returns-in-Err-check_side-clause-narrowed : goal.returns-in-Err-check_side-clause-narrowed
returns-in-Err-check_side-clause-narrowed g c x b y s named rising within =
    let ks = keys_of c.args.keys in
    let m = c.key_of.new.sw in
    let there = within_kept ks c.args.sw.now m c.args.span (items (node x b y)) c.in-Ok.ensures.keeps c.requires.span within in
    absurd (not_above ks m c.args.span c.in-Ok.own x b y there (c.in-Ok.ensures.read b.name (row_of x b y) named s.0) c.args.at c.in-Err-check_side.fault c.in-Err-check_side.ensures)

pub returns-in-Ok-check_side-clause-span : goal.returns-in-Ok-check_side-clause-span
returns-in-Ok-check_side-clause-span g c =
    narrow_span c.key_of.new.sw Less c.args.at c.in-Ok.own c.args.span c.narrowed.result c.narrowed.ensures c.in-Ok.ensures.has (span_kept c.args.sw.now c.key_of.new.sw c.args.span c.in-Ok.ensures.keeps c.requires.span)

pub returns-in-Err-check_side-clause-fault : goal.returns-in-Err-check_side-clause-fault
returns-in-Err-check_side-clause-fault g c =
    high_failed _ _ c.key_of.new.sw c.args.at c.in-Ok.own c.args.span c.in-Err-check_side.fault c.in-Ok.ensures.has (span_kept c.args.sw.now c.key_of.new.sw c.args.span c.in-Ok.ensures.keeps c.requires.span) c.in-Err-check_side.ensures

pub returns-in-Err-check_side-clause-brings : goal.returns-in-Err-check_side-clause-brings
returns-in-Err-check_side-clause-brings g c = brings_more _ _ 0 1 (omega arith) c.in-Ok.ensures.brings

pub check_side-requires-clause-edge : goal.check_side-requires-clause-edge
check_side-requires-clause-edge g c = end_held c.key_of.new.sw c.args.span.high (span_kept c.args.sw.now c.key_of.new.sw c.args.span c.in-Ok.ensures.keeps c.requires.span).high_is

pub returns-in-Ok-check_side-clause-fetched : goal.returns-in-Ok-check_side-clause-fetched
returns-in-Ok-check_side-clause-fetched g c = c.in-Ok.ensures.fetched
