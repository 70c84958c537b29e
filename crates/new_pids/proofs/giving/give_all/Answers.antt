use Rattle.std.proofs.Common.{◌<◌, ◌≤◌, ◌++◌, ◌∷◌, [], sym, ap, ◌∙◌, subst, refl, arith, length, take, get_or}
use Rattle.std.proofs.lemmas.List.{take_more, take_all}
use Rattle.joint_ops.specs.World.{IsStored}
use Rattle.new_pids.specs.Giving.{GivesAll, done}
use Rattle.new_pids.proofs.GivingLaws.{all-held, all-renamed, renamed-all}
use Rattle.new_pids.proofs.giving.give_all.Goals as goal

pub loop-place-init : goal.loop-place-init
loop-place-init g c = (done c.args.sw.now c.args.first, c.requires.below, refl, omega arith, omega arith)

pub listed_at-object-requires : goal.listed_at-object-requires
listed_at-object-requires g c =
    let long = ap length c.loop-place.invariant.2 in
    omega (arith, long, c.loop-place-test.true, c.listed-count.ensures.count)

pub give_one-next-requires-clause-below : goal.give_one-next-requires-clause-below
give_one-next-requires-clause-below g c = c.loop-place.invariant.1

pub give_one-next-requires-clause-low : goal.give_one-next-requires-clause-low
give_one-next-requires-clause-low g c = omega (arith, c.loop-place.invariant.3, c.requires.low)

pub give_one-next-requires-clause-high : goal.give_one-next-requires-clause-high
give_one-next-requires-clause-high g c = let small = c.sound.ensures.small in omega (arith, c.loop-place.invariant.4, c.requires.high, c.loop-place-test.true, c.listed-count.ensures.below, small)

pub loop-place-preserved : goal.loop-place-preserved
loop-place-preserved g c =
    let list = c.args.sw.now.reached in
    let lt : c.loop-place.place < length list = omega (arith, c.loop-place-test.true, c.listed-count.ensures.count) in
    let all = c.give_one-next.ensures.all c.args.sw.now (take c.loop-place.place list) c.args.first c.loop-place.invariant.0 in
    let is = c.listed_at-object.ensures.is ∙ ap (λ l. get_or l c.loop-place.place 0) c.loop-place.invariant.2 in
    let there = ap (λ x. take c.loop-place.place list ++ x ∷ []) is ∙ sym (take_more list c.loop-place.place 0 lt) in (
      subst (λ xs. GivesAll c.args.sw.now xs c.args.first c.give_one-next.new.sw c.give_one-next.result) there all,
      c.give_one-next.ensures.below,
      c.give_one-next.ensures.list ∙ c.loop-place.invariant.2,
      omega (arith, c.loop-place.invariant.3, c.give_one-next.ensures.grows.0),
      omega (arith, c.loop-place.invariant.4, c.give_one-next.ensures.grows.1),
    )

pub returns-clause-given : goal.returns-clause-given
returns-clause-given g c =
    let list = c.args.sw.now.reached in
    let end : length list ≤ c.loop-place.place = omega (arith, c.loop-place-test.false, c.listed-count.ensures.count) in
    subst (λ xs. GivesAll c.args.sw.now xs c.args.first c.loop-place.sw c.loop-place.next) (take_all c.loop-place.place list end) c.loop-place.invariant.0

pub returns-clause-renamed : goal.returns-clause-renamed
returns-clause-renamed g c below =
    let all = returns-clause-given g c in
    let outside = g.V.Vault.outside c.args.vault.now in
    let r = all-renamed c.args.sw.now c.loop-place.sw c.args.sw.now.reached c.args.first c.loop-place.next (IsStored outside) below all in
    renamed-all c.args.sw.now c.loop-place.sw outside r.0 (all-held c.args.sw.now c.loop-place.sw c.args.sw.now.reached c.args.first c.loop-place.next all)
