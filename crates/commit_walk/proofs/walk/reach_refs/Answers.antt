use Rattle.std.proofs.Common.{◌≡◌, subst, arith, ap}
use Rattle.swizzle.specs.Heap.{header_at}
use Rattle.commit_walk.specs.Walk.{Lists, GoesBelow, May}
use Rattle.commit_walk.proofs.SlotLaws.{slots-more, slots-none}
use Rattle.commit_walk.proofs.walk.reach_refs.Goals as goal

pub loop-slot-init : goal.loop-slot-init
loop-slot-init c = slots-none c.args.sw.now c.args.object

pub reach_slot-requires-clause-held : goal.reach_slot-requires-clause-held
reach_slot-requires-clause-held c = c.loop-slot.invariant.steady.held c.args.object c.requires

pub reach_slot-requires-clause-below : goal.reach_slot-requires-clause-below
reach_slot-requires-clause-below c =
    let same = ap (λ h. h.refs) (c.loop-slot.invariant.steady.headers c.args.object) in
    omega (arith, same, c.loop-slot-test.true, c.refs-count.ensures)

pub loop-slot-preserved : goal.loop-slot-preserved
loop-slot-preserved c = slots-more c.args.sw.now c.loop-slot.sw c.reach_slot.new.sw c.args.object c.loop-slot.slot c.loop-slot.invariant c.reach_slot.ensures

pub returns : goal.returns
returns c =
    let end : c.loop-slot.slot ≡ (header_at c.args.sw.now c.args.object).refs = omega (arith, c.loop-slot-test.false, c.loop-slot.auto.slot-end, c.refs-count.ensures) in
    subst (λ n. Lists c.args.sw.now c.loop-slot.sw (λ y. GoesBelow c.args.sw.now n c.args.object y × May c.args.sw.now y)) end c.loop-slot.invariant
