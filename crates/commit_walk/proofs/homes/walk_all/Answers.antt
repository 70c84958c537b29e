use Rattle.std.proofs.Common.{◌≡◌, subst, length, arith}
use Rattle.commit_walk.specs.Homes.{IsHomed, source_at}
use Rattle.commit_walk.proofs.AllLaws.{homed-none, homed-more, root-still}
use Rattle.commit_walk.proofs.homes.walk_all.Goals as goal

pub loop-source-init : goal.loop-source-init
loop-source-init c = homed-none c.args.sw.now c.args.sources.now c.args.sw.now.reached c.requires.empty

pub walk_one-requires : goal.walk_one-requires
walk_one-requires c =
    root-still c.args.sw.now c.loop-source.sw (source_at c.args.sources.now c.loop-source.source-index).root c.loop-source.invariant.same
    (c.requires.roots c.loop-source.source-index c.loop-source-test.true)

pub loop-source-preserved : goal.loop-source-preserved
loop-source-preserved c =
    homed-more c.args.sw.now c.loop-source.sw c.walk_one.new.sw c.args.sources.now c.loop-source.source-index c.loop-source.sw.reached c.walk_one.new.sw.reached c.loop-source.invariant c.walk_one.ensures

pub returns : goal.returns
returns c =
    let end : c.loop-source.source-index ≡ length c.args.sources.now = omega (arith, c.loop-source-test.false, c.loop-source.auto.source-index-end) in
    subst (λ n. IsHomed c.args.sw.now c.loop-source.sw c.args.sources.now n c.loop-source.sw.reached) end c.loop-source.invariant
