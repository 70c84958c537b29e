use Rattle.std.proofs.Common.{◌≡◌, ap, ◌∙◌, subst, get_or, length, arith}
use Rattle.commit_walk.specs.Homes.{GivesHome, GivesHomes}
use Rattle.commit_walk.proofs.OnlyLaws.{homes-none, homes-more}
use Rattle.commit_walk.proofs.homes.give_homes.Goals as goal

pub loop-place-init : goal.loop-place-init
loop-place-init c = (omega arith, homes-none c.args.sw.now c.args.sw.now.reached c.args.from c.args.number)

pub listed_at-object-requires : goal.listed_at-object-requires
listed_at-object-requires c =
    let long = ap length c.loop-place.invariant.1.reached in
    omega (arith, long, c.loop-place-test.true, c.listed-count.ensures.count)

pub loop-place-preserved : goal.loop-place-preserved
loop-place-preserved c =
    let is = c.listed_at-object.ensures.is ∙ ap (λ l. get_or l c.loop-place.place 0) c.loop-place.invariant.1.reached in (
      omega (arith, c.loop-place.invariant.0),
      homes-more c.args.sw.now c.loop-place.sw c.give_home.new.sw c.args.sw.now.reached c.args.from c.loop-place.place c.args.number c.loop-place.invariant.0 c.loop-place.invariant.1
          (subst (λ x. GivesHome c.loop-place.sw c.give_home.new.sw x c.args.number) is c.give_home.ensures),
    )

pub returns : goal.returns
returns c =
    let end : c.loop-place.place ≡ length c.args.sw.now.reached = omega (arith, c.loop-place-test.false, c.loop-place.auto.place-end, c.listed-count.ensures.count) in
    subst (λ n. GivesHomes c.args.sw.now c.loop-place.sw c.args.sw.now.reached c.args.from n c.args.number) end c.loop-place.invariant.1
