use Rattle.std.proofs.Common.{arith}
use Rattle.paged_volume.proofs.Bounds.{are_low}
use Rattle.paged_volume.proofs.names.logical_of.Goals as goal

pub logical_pages-requires : goal.logical_pages-requires
logical_pages-requires c = let low = are_low c.args.committed c.requires in let used = low.used in omega arith

pub overflow_cast-result : goal.overflow_cast-result
overflow_cast-result c = let low = are_low c.args.committed c.requires in let used = low.used in omega (arith, c.logical_pages.ensures)
