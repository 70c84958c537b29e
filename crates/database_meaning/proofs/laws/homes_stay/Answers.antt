use Rattle.std.proofs.Common.{◌≡◌, sym, subst, Some}
use Rattle.ps_heap.specs.Held.{home_at}
use Rattle.ps_heap.specs.Commit.{saved}
use Rattle.database_meaning.proofs.CommitLaws.{saved-is, stays}
use Rattle.database_meaning.proofs.laws.homes_stay.Goals as goal

pub returns : goal.returns
unfolding saved
returns c = λ h heap id n e l home. subst (λ x. home_at x.homes id ≡ Some n) (sym (saved-is h heap e).1) (stays h id n l home)
