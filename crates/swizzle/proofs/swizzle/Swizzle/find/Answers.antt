use Rattle.std.proofs.Common.{ap, ◌∙◌}
use Rattle.swizzle.specs.Heap.{Heap, local_of}
use Rattle.swizzle.proofs.ChainedLaws.{chained-local}
use Rattle.swizzle.proofs.HeaderLaws.{placed, placed-find}
use Rattle.swizzle.specs.View.{noted_of}
use Rattle.swizzle.proofs.swizzle.Swizzle.find.Goals as goal

pub find-requires-clause-some : goal.find-requires-clause-some
find-requires-clause-some c = c.self.invariant.pids.some

pub find-requires-clause-belongs : goal.find-requires-clause-belongs
find-requires-clause-belongs c =
    let a = c.self.inside in
    let k = c.self.invariant in
    placed a.area.words a.area.size (noted_of a) a.map.heads.items k.cut k.heap k.pids.chained

pub returns : goal.returns
returns c =
    let a = c.self.inside in
    let k = c.self.invariant in
    let m = placed a.area.words a.area.size (noted_of a) a.map.heads.items k.cut k.heap k.pids.chained in
    let found = placed-find a.area.words a.area.size (noted_of a) a.map.heads.items k.cut k.heap k.pids.chained c.args.pid c.find.result (c.find.ensures m) in
    chained-local _ a.map.heads.items k.pids.chained c.args.pid c.find.result k.heap.one c.requires found ∙ ap (λ (h : Heap). local_of h c.args.pid) c.self.view_is
