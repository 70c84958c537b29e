use Rattle.std.proofs.Common.{ℕ, ◌≡◌, ◌+◌, ◌-◌, refl, replicate, subst, sym, arith}
use Rattle.heap_places.specs.inside.Laying.{with_values}
use Rattle.heap_places.proofs.FillingLaws.{IsLaying, near-repeated, laying-again, laying-first, laying-more, laying-done}
use Rattle.heap_places.proofs.filling.lay_repeated.Goals as goal

pub loop-init : goal.loop-init
loop-init c =
    let all : c.args.count - 0 ≡ c.args.count = omega arith in
    subst (λ (n : ℕ). IsLaying (with_values c.args.sw.now c.args.object c.args.first (replicate c.args.count c.args.value)) c.args.sw.now c.args.object
    c.args.first (replicate n c.args.value)) (sym all)
    (record { held = c.requires.held; rows = c.requires.rows; near = near-repeated c.args.sw.now c.args.count c.args.value c.requires.near; same = refl })

pub lay_next-next-requires-clause-rows : goal.lay_next-next-requires-clause-rows
lay_next-next-requires-clause-rows c =
    let target = with_values c.args.sw.now c.args.object c.args.first (replicate c.args.count c.args.value) in
    (laying-first target c.loop.sw c.args.object c.loop.next c.args.value (replicate (c.args.count - (c.loop.counter + 1)) c.args.value)
    (laying-again target c.loop.sw c.args.object c.loop.next c.args.value c.args.count c.loop.counter c.loop-test.true c.loop.invariant)).0

pub lay_next-next-requires-clause-near : goal.lay_next-next-requires-clause-near
lay_next-next-requires-clause-near c =
    let target = with_values c.args.sw.now c.args.object c.args.first (replicate c.args.count c.args.value) in
    (laying-first target c.loop.sw c.args.object c.loop.next c.args.value (replicate (c.args.count - (c.loop.counter + 1)) c.args.value)
    (laying-again target c.loop.sw c.args.object c.loop.next c.args.value c.args.count c.loop.counter c.loop-test.true c.loop.invariant)).1

pub loop-preserved : goal.loop-preserved
loop-preserved c =
    let target = with_values c.args.sw.now c.args.object c.args.first (replicate c.args.count c.args.value) in
    laying-more target c.loop.sw c.lay_next-next.new.sw c.args.object c.loop.next c.lay_next-next.result c.args.value
    (replicate (c.args.count - (c.loop.counter + 1)) c.args.value)
    (laying-again target c.loop.sw c.args.object c.loop.next c.args.value c.args.count c.loop.counter c.loop-test.true c.loop.invariant)
    c.lay_next-next.ensures.laid c.lay_next-next.ensures.next c.lay_next-next.ensures.stands

pub returns : goal.returns
returns c =
    laying-done (with_values c.args.sw.now c.args.object c.args.first (replicate c.args.count c.args.value)) c.loop.sw c.args.object c.loop.next c.args.value
    c.args.count c.loop.counter c.loop-test.false c.loop.invariant
