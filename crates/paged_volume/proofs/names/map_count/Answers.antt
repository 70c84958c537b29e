use Rattle.std.proofs.Common.{arith}
use Rattle.paged_volume.proofs.Bounds.{are_low}
use Rattle.paged_volume.proofs.names.map_count.Goals as goal

pub map_pages-requires : goal.map_pages-requires
map_pages-requires c = let low = are_low c.args.committed c.requires in let within = low.within in let most = low.capacity in omega (arith, c.logical_of.ensures)
