use Rattle.std.proofs.Common.{ap, length, arith, length-append}
use Rattle.commit_walk.proofs.OnlyLaws.{one-homed}
use Rattle.commit_walk.proofs.homes.walk_one.Goals as goal

pub give_homes-requires : goal.give_homes-requires
give_homes-requires c =
    let s = c.walk_database.ensures.searched in
    let long = ap length s.is in
    let parts = length-append c.args.sw.now.reached s.more in
    omega (arith, long, parts, c.listed-from.ensures.count)

pub returns : goal.returns
returns c =
    one-homed c.args.sw.now c.walk_database.new.sw c.give_homes.new.sw c.args.number c.listed-from.result c.args.root c.listed-from.ensures.count c.walk_database.ensures c.give_homes.ensures
