use Rattle.std.proofs.Common.{inl, inr, sym, subst}
use Rattle.ps_heap.specs.Commit.{saved}
use Rattle.database_meaning.specs.Sound.{IsCommitted}
use Rattle.database_meaning.proofs.CommitLaws.{saved-is, stays, reached-committed, committed-reached}
use Rattle.database_meaning.proofs.laws.what_is_reached_is_committed.Goals as goal

pub returns : goal.returns
unfolding saved
returns c = λ h heap id sound e l.
    let s = saved-is h heap e in (
      λ after. committed-reached h id sound (subst (λ x. IsCommitted x.homes id) s.1 after),
      λ before. subst (λ x. IsCommitted x.homes id) (sym s.1) (elim before [ inl was ↦ (was.0, stays h id was.0 l was.1) | inr r ↦ reached-committed h id sound s.0 l r ]),
    )
