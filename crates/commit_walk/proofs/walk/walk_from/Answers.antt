use Rattle.std.proofs.Common.{refl, ◌∙◌, subst, arith, ◌<◌, length, get_or}
use Rattle.commit_walk.specs.Walk.{Lists, Goes, May}
use Rattle.commit_walk.proofs.SteadyLaws.{alike, alike-back, goes-alike, may-alike, lists-as, steady-none, steady-then}
use Rattle.commit_walk.proofs.FromLaws.{begun, goes_on, ended}
use Rattle.commit_walk.proofs.walk.walk_from.Goals as goal

pub loop-next-init : goal.loop-next-init
loop-next-init c = (steady-none c.args.sw.now, (λ y. refl), begun c.args.sw.now c.args.from c.requires c.sound.ensures)

pub loop-next-preserved : goal.loop-next-preserved
loop-next-preserved c =
    let now = c.args.sw.now in
    let mid = c.loop-next.sw in
    let new = c.reach_refs.new.sw in
    let x = get_or mid.reached c.loop-next.next 0 in
    let a = alike now mid c.loop-next.invariant.0 in
    let back = alike-back now mid a in
    let step = subst (λ z. Lists mid new (λ y. Goes mid z y × May mid y)) c.listed_at-object.ensures.is c.reach_refs.ensures in
    let over = lists-as mid new (λ y. Goes mid x y × May mid y) (λ y. Goes now x y × May now y) step
    (λ y p. (goes-alike mid now back x y p.0, may-alike mid now back y p.1)) (λ y p. (goes-alike now mid a x y p.0, may-alike now mid a y p.1)) in
    let lt : c.loop-next.next < length mid.reached = omega (arith, c.loop-next-test.true, c.listed.ensures.count) in (
      steady-then now mid new c.loop-next.invariant.0 over.steady,
      (λ y. over.homes y ∙ c.loop-next.invariant.1 y),
      goes_on now now.reached c.args.from mid.reached new.reached c.loop-next.next c.sound.ensures c.loop-next.invariant.2 lt over.grows,
    )

pub returns : goal.returns
returns c = record {
  steady = c.loop-next.invariant.0;
  homes = c.loop-next.invariant.1;
  walked = ended c.args.sw.now c.args.sw.now.reached c.args.from c.loop-next.sw.reached c.loop-next.next c.loop-next.invariant.2 (omega (arith, c.loop-next-test.false, c.listed.ensures.count));
}
