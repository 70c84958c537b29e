use Rattle.std.proofs.Common.{ap, ◌∙◌, sym, ◌+◌, ℕ}
use Rattle.heap_ops.proofs.ClassLaws.{refs-damaged, nums-damaged, not-damaged}
use Rattle.heap_ops.proofs.structures.test_shape.Goals as goal

pub returns-then-refs-refs_wanted : goal.returns-then-refs-refs_wanted
returns-then-refs-refs_wanted c =
    refs-damaged c.args.sw.now c.args.object c.from-refs.result _ c.args.rows c.damaged.result c.sound.ensures c.requires.held c.requires.kind
    (c.from-refs.ensures ∙ c.refs.ensures) (ap (λ (n : ℕ). 1 + n) c.from-refs_wanted.ensures) c.if-refs-refs_wanted.true c.damaged.ensures

pub returns-then-nums-nums_wanted : goal.returns-then-nums-nums_wanted
returns-then-nums-nums_wanted c =
    nums-damaged c.args.sw.now c.args.object c.from-refs.result c.from-nums.result _ c.args.rows c.damaged-then-nums-nums_wanted.result c.sound.ensures
    c.requires.held c.requires.kind
    (c.from-refs.ensures ∙ c.refs.ensures) (c.if-refs-refs_wanted.false ∙ ap (λ (n : ℕ). 1 + n) c.from-refs_wanted.ensures)
    (c.from-nums.ensures ∙ c.nums.ensures) (ap (λ (n : ℕ). 1 + n) c.from-nums_wanted.ensures) c.if-nums-nums_wanted.true c.damaged-then-nums-nums_wanted.ensures

pub returns : goal.returns
returns c =
    not-damaged c.args.sw.now c.args.object c.args.rows c.sound.ensures c.requires.held c.requires.kind
    (sym c.refs.ensures ∙ sym c.from-refs.ensures ∙ c.if-refs-refs_wanted.false ∙ ap (λ (n : ℕ). 1 + n) c.from-refs_wanted.ensures)
    (sym c.nums.ensures ∙ sym c.from-nums.ensures ∙ c.if-nums-nums_wanted.false ∙ ap (λ (n : ℕ). 1 + n) c.from-nums_wanted.ensures)
