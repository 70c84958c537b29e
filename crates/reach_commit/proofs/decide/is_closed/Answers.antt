use Rattle.commit_walk.proofs.HomeLaws.{home_below}
use Rattle.reach_commit.proofs.decide.is_closed.Goals as goal

pub num-requires-clause-below : goal.num-requires-clause-below
num-requires-clause-below c = home_below c.args.sw.now c.args.object c.sound.ensures c.requires
