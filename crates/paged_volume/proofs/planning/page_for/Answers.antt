use Rattle.std.proofs.Common.{arith}
use Rattle.paged_volume.proofs.Choosing.{none_free}
use Rattle.paged_volume.proofs.planning.page_for.Goals as goal

pub unreachable-requires : goal.unreachable-requires
unreachable-requires c =
    let few = c.requires c.if-not-wants.false in
    omega (arith, none_free c.args.map.now.free c.in-None.ensures.found)
