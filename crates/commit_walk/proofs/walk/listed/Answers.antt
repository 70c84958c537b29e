use Rattle.std.proofs.Common.{ap, arith, length}
use Rattle.commit_walk.proofs.SteadyLaws.{few-reached}
use Rattle.commit_walk.proofs.walk.listed.Goals as goal

pub overflow_cast-result : goal.overflow_cast-result
overflow_cast-result c =
    let few = few-reached c.args.sw.now c.sound.ensures in
    let long = ap length c.reached.ensures in
    let small = c.sound.ensures.small in
    omega (arith, few, long, small)

pub returns-clause-below : goal.returns-clause-below
returns-clause-below c =
    let few = few-reached c.args.sw.now c.sound.ensures in
    let long = ap length c.reached.ensures in
    omega (arith, few, long)
