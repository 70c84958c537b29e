use Rattle.reach_commit.proofs.ReachLaws.{lists}
use Rattle.reach_commit.proofs.reach.list_reached.Goals as goal

pub returns : goal.returns
returns c = lists c.args.sw.now c.walk_all.new.sw c.walk_one.new.sw c.own_roots.new.sw c.args.writing.now c.args.directory c.requires.roots c.walk_all.ensures c.walk_one.ensures c.own_roots.ensures
