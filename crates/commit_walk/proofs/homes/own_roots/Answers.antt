use Rattle.std.proofs.Common.{◌≡◌, subst, length, arith}
use Rattle.commit_walk.specs.Homes.{OwnsRoots, source_at}
use Rattle.commit_walk.proofs.AllLaws.{owns-none, owns-more, root-still}
use Rattle.commit_walk.proofs.homes.own_roots.Goals as goal

pub loop-source-init : goal.loop-source-init
loop-source-init c = owns-none c.args.sw.now c.args.sources.now

pub own_root-requires : goal.own_root-requires
own_root-requires c =
    root-still c.args.sw.now c.loop-source.sw (source_at c.args.sources.now c.loop-source.source-index).root c.loop-source.invariant.same (c.requires c.loop-source.source-index c.loop-source-test.true)

pub loop-source-preserved : goal.loop-source-preserved
loop-source-preserved c = owns-more c.args.sw.now c.loop-source.sw c.own_root.new.sw c.args.sources.now c.loop-source.source-index c.loop-source.invariant c.own_root.ensures

pub returns : goal.returns
returns c =
    let end : c.loop-source.source-index ≡ length c.args.sources.now = omega (arith, c.loop-source-test.false, c.loop-source.auto.source-index-end) in
    subst (λ n. OwnsRoots c.args.sw.now c.loop-source.sw c.args.sources.now n) end c.loop-source.invariant
