use Rattle.reaching.proofs.WalkLaws.{least-in, in-least}
use Rattle.ps_heap.specs.References.{next_in}
use Rattle.ps_heap.specs.Commit.{loose, starts, newly_reached}
use Rattle.database_meaning.proofs.laws.the_computed_set_is_the_least.Goals as goal

pub returns : goal.returns
unfolding newly_reached
returns c = λ h id. ((λ l. least-in (next_in h.objects) (loose h) (starts h) id l), λ r. in-least (next_in h.objects) (loose h) (starts h) id r)
