use Rattle.std.proofs.Common.{sym, subst, arith, get_or, below_more}
use Rattle.reaching.specs.Reaching.{IsIn}
use Rattle.commit_walk.proofs.FromLaws.{index-in, in-index}
use Rattle.reach_commit.specs.Deciding.{IsHomed}
use Rattle.reach_commit.proofs.decide.is_assigned.Goals as goal

pub returns-then-is_at_home : goal.returns-then-is_at_home
returns-then-is_at_home c =
    let list = c.args.sw.now.assigned in
    let there = subst (λ x. IsIn x list) (sym c.assigned_at-object.ensures.is) (index-in list c.loop-place.place (omega (arith, c.loop-place-test.true, c.assigned_count-count.ensures))) in
    (c.assigned_at-object.result, record { listed = there; homed = c.if-is_at_home.ensures })

pub loop-place-preserved : goal.loop-place-preserved
loop-place-preserved c =
    let sw = c.args.sw.now in
    below_more (λ p. IsHomed sw (get_or sw.assigned p 0) → ⊥) c.loop-place.place c.loop-place.invariant
    (subst (λ x. IsHomed sw x → ⊥) c.assigned_at-object.ensures.is c.if-is_at_home.ensures)

pub returns : goal.returns
returns c = λ x a.
    let i = in-index c.args.sw.now.assigned x a.listed in
    c.loop-place.invariant i.place (omega (arith, i.below, c.loop-place-test.false, c.assigned_count-count.ensures)) (subst (IsHomed c.args.sw.now) (sym i.is) a.homed)
