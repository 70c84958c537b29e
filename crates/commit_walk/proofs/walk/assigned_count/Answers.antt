use Rattle.std.proofs.Common.{ap, arith, length}
use Rattle.commit_walk.proofs.SteadyLaws.{few-assigned}
use Rattle.commit_walk.proofs.walk.assigned_count.Goals as goal

pub overflow_cast-result : goal.overflow_cast-result
overflow_cast-result c =
    let few = few-assigned c.args.sw.now c.sound.ensures in
    let long = ap length c.assigned.ensures in
    let small = c.sound.ensures.small in
    omega (arith, few, long, small)
