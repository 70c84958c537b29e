use Rattle.std.proofs.Common.{sym, subst}
use Rattle.ps_heap.specs.Commit.{saved}
use Rattle.database_meaning.specs.Sound.{IsClosed}
use Rattle.database_meaning.proofs.CommitLaws.{saved-is, closed}
use Rattle.database_meaning.proofs.laws.what_is_committed_is_closed.Goals as goal

pub returns : goal.returns
unfolding saved
returns c = λ h heap sound there before e. let s = saved-is h heap e in subst (λ x. IsClosed x.objects x.homes) (sym s.1) (closed h sound there before s.0)
