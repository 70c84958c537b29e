use Rattle.std.proofs.Common.{◌≡◌, ap, ◌∙◌, subst, get_or, length, arith}
use Rattle.commit_walk.specs.Walk.{Lists, Goes, May, IsAt, StartsAt}
use Rattle.commit_walk.proofs.HomeLaws.{assigned-none, assigned-more}
use Rattle.commit_walk.proofs.walk.reach_assigned.Goals as goal

pub loop-place-init : goal.loop-place-init
loop-place-init c = assigned-none c.args.sw.now c.args.number c.args.sw.now.assigned

pub assigned_at-object-requires : goal.assigned_at-object-requires
assigned_at-object-requires c =
    let long = ap length c.loop-place.invariant.steady.assigned in
    omega (arith, long, c.assigned_count-count.ensures, c.loop-place-test.true)

pub loop-place-preserved : goal.loop-place-preserved
loop-place-preserved c =
    let mid = c.loop-place.sw in
    let is = c.assigned_at-object.ensures.is ∙ ap (λ l. get_or l c.loop-place.place 0) c.loop-place.invariant.steady.assigned in
    assigned-more c.args.sw.now mid c.reach_one.new.sw c.args.number c.args.sw.now.assigned c.loop-place.place c.loop-place.invariant
    (subst (λ x. Lists mid c.reach_one.new.sw (λ y. IsAt mid c.args.number x × Goes mid x y × May mid y)) is c.reach_one.ensures)

pub returns : goal.returns
returns c =
    let end : c.loop-place.place ≡ length c.args.sw.now.assigned = omega (arith, c.loop-place-test.false, c.loop-place.auto.place-end, c.assigned_count-count.ensures) in
    subst (λ n. Lists c.args.sw.now c.loop-place.sw (λ y. StartsAt c.args.sw.now c.args.number c.args.sw.now.assigned n y × May c.args.sw.now y)) end c.loop-place.invariant
