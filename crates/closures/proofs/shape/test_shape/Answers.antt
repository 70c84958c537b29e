use Rattle.std.proofs.Common.{sym, ◌∙◌}
use Rattle.closures.proofs.ShapeLaws.{kind-damaged, refs-damaged, nums-damaged, not-damaged}
use Rattle.closures.proofs.shape.test_shape.Goals as goal

pub returns-then-not-is_kind : goal.returns-then-not-is_kind
returns-then-not-is_kind c =
    kind-damaged c.args.sw.now c.args.object c.args.kind c.args.refs c.args.nums c.other_kind.result (sym c.is_kind.ensures ∙ c.if-not-is_kind.true)
    c.other_kind.ensures

pub returns-then-refs_found-refs : goal.returns-then-refs_found-refs
returns-then-refs_found-refs c =
    refs-damaged c.args.sw.now c.args.object c.args.kind c.args.refs c.args.nums c.from-refs_found.result c.damaged.result c.sound.ensures c.requires
    (sym c.is_kind.ensures ∙ c.if-not-is_kind.false) (c.from-refs_found.ensures ∙ c.refs.ensures) c.if-refs_found-refs.true c.damaged.ensures

pub returns-then-nums_found-nums : goal.returns-then-nums_found-nums
returns-then-nums_found-nums c =
    nums-damaged c.args.sw.now c.args.object c.args.kind c.args.refs c.args.nums c.from-refs_found.result c.from-nums_found.result
    c.damaged-then-nums_found-nums.result c.sound.ensures c.requires
    (sym c.is_kind.ensures ∙ c.if-not-is_kind.false) (c.from-refs_found.ensures ∙ c.refs.ensures) c.if-refs_found-refs.false
    (c.from-nums_found.ensures ∙ c.nums.ensures) c.if-nums_found-nums.true c.damaged-then-nums_found-nums.ensures

pub returns : goal.returns
returns c =
    not-damaged c.args.sw.now c.args.object c.args.kind c.args.refs c.args.nums c.from-refs_found.result c.from-nums_found.result c.sound.ensures
    c.requires
    (sym c.is_kind.ensures ∙ c.if-not-is_kind.false) (c.from-refs_found.ensures ∙ c.refs.ensures) c.if-refs_found-refs.false
    (c.from-nums_found.ensures ∙ c.nums.ensures) c.if-nums_found-nums.false
