use Rattle.std.proofs.Common.{arith}
use Rattle.paged_volume.proofs.Bounds.{are_low}
use Rattle.paged_volume.proofs.Changed.{changed_most}
use Rattle.paged_volume.proofs.planning.wanted_pages.Goals as goal

pub changed_pages-requires-clause-few : goal.changed_pages-requires-clause-few
changed_pages-requires-clause-few c = let few = (are_low c.args.next c.requires.fit).few in omega (arith, c.map_count.ensures)

pub overflow_add-result : goal.overflow_add-result
overflow_add-result c =
    let few = (are_low c.args.next c.requires.fit).few in
    let depth = c.requires.fit.depth.at_most_one in
    omega (arith, c.map_count.ensures, c.changed_pages.ensures, changed_most c.args.map.now c.logical_of.result c.map_count.result)
