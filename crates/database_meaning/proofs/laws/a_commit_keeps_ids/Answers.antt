use Rattle.std.proofs.Common.{ap}
use Rattle.ps_heap.specs.Commit.{saved}
use Rattle.database_meaning.proofs.CommitLaws.{saved-is}
use Rattle.database_meaning.proofs.laws.a_commit_keeps_ids.Goals as goal

pub returns : goal.returns
unfolding saved
returns c = λ h heap e. let s = saved-is h heap e in (ap (λ x. x.objects) s.1, ap (λ x. x.directory) s.1)
