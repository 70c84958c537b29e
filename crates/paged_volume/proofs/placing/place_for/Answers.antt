use Rattle.paged_volume.proofs.Putting.{placed_again}
use Rattle.paged_volume.proofs.placing.place_for.Goals as goal

pub returns-then-staged-ne0 : goal.returns-then-staged-ne0
returns-then-staged-ne0 c = placed_again c.args.map.now c.args.page c.staged-staged.result 0 c.committed.result c.staged-staged.ensures c.committed.ensures c.if-staged-committed.true c.if-staged-ne0.true c.requires c.sound.ensures
