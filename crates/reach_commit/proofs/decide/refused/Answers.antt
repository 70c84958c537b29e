use Rattle.std.proofs.Common.{refl, sym, subst, arith, get_or, below_more}
use Rattle.swizzle.specs.Heap.{num_at}
use Rattle.reaching.specs.Reaching.{IsIn}
use Rattle.commit_walk.proofs.FromLaws.{index-in, in-index}
use Rattle.reach_commit.specs.Deciding.{IsHomed, IsWriting}
use Rattle.reach_commit.proofs.decide.refused.Goals as goal

pub returns-then-is_closed-clause-refused : goal.returns-then-is_closed-clause-refused
returns-then-is_closed-clause-refused c =
    let list = c.args.sw.now.assigned in
    let there = subst (λ x. IsIn x list) (sym c.assigned_at-object.ensures.is) (index-in list c.loop-place.place (omega (arith, c.loop-place-test.true, c.assigned_count-count.ensures))) in
    record { assigned = record { listed = there; homed = c.if-is_closed.ensures.0 }; home_is = refl; closed = c.if-is_closed.ensures.1 }

pub loop-place-preserved : goal.loop-place-preserved
loop-place-preserved c =
    let sw = c.args.sw.now in
    below_more (λ p. IsHomed sw (get_or sw.assigned p 0) → IsWriting c.args.writing.now (num_at sw (get_or sw.assigned p 0) 0)) c.loop-place.place c.loop-place.invariant
    (subst (λ x. IsHomed sw x → IsWriting c.args.writing.now (num_at sw x 0)) c.assigned_at-object.ensures.is c.if-is_closed.ensures)

pub returns-clause-refused : goal.returns-clause-refused
returns-clause-refused c = λ x a.
    let i = in-index c.args.sw.now.assigned x a.listed in
    let w = c.loop-place.invariant i.place (omega (arith, i.below, c.loop-place-test.false, c.assigned_count-count.ensures)) (subst (IsHomed c.args.sw.now) (sym i.is) a.homed) in
    subst (λ y. IsWriting c.args.writing.now (num_at c.args.sw.now y 0)) i.is w
