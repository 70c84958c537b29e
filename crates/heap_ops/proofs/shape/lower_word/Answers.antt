use Rattle.std.proofs.Common.{sym, arith, ◌≤◌, length}
use Rattle.std.proofs.Math.ListN.{get_or-eq_default}
use Rattle.heap_places.specs.swizzle.Joint.{shown_at}
use Rattle.heap_places.proofs.of_swizzle.NameLaws.{shown-counts}
use Rattle.heap_ops.proofs.shape.lower_word.Goals as goal

pub returns-then-nums-lt2 : goal.returns-then-nums-lt2
returns-then-nums-lt2 c =
    let it = shown_at c.args.sw.now c.args.vector in
    let counts = shown-counts c.args.sw.now c.args.vector c.sound.ensures c.requires in
    let short : length it.nums ≤ 1 = omega (arith, counts.1, c.nums.ensures, c.if-nums-lt2.true) in
    sym (get_or-eq_default it.nums 0 short)
