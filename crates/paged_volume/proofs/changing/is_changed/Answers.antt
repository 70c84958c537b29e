use Rattle.std.proofs.Common.{sym, ◌∙◌, arith}
use Rattle.paged_volume.proofs.Changed.{changed_some, changed_none, none_more}
use Rattle.paged_volume.proofs.changing.is_changed.Goals as goal

pub loop-index-init : goal.loop-index-init
loop-index-init c = record { none = λ i lt. absurd (omega arith) }

pub returns-then-differs : goal.returns-then-differs
returns-then-differs c =
    let lt = c.loop-index-test.true in
    sym (changed_some c.args.map.now c.args.logical c.args.map_page c.loop-index.index lt (sym c.differs.ensures ∙ c.if-differs.true))

pub loop-index-preserved : goal.loop-index-preserved
loop-index-preserved c = record { none = none_more c.args.map.now c.args.logical c.args.map_page c.loop-index.index c.loop-index.invariant.none (sym c.differs.ensures ∙ c.if-differs.false) }

pub returns : goal.returns
returns c =
    let past = c.loop-index-test.false in
    sym (changed_none c.args.map.now c.args.logical c.args.map_page (λ i lt. c.loop-index.invariant.none i (omega arith)))
