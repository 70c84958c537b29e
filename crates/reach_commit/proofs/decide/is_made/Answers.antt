use Rattle.std.proofs.Common.{◌≡◌, ℕ, ap, ◌∙◌, arith, below_more}
use Rattle.std.specs.Prelude.{Some}
use Rattle.std.specs.Option.{is_some}
use Rattle.std.proofs.lemmas.Bool.{false≢true}
use Rattle.commit_walk.specs.Homes.{source_at}
use Rattle.reach_commit.proofs.decide.is_made.Goals as goal

pub loop-source-preserved : goal.loop-source-preserved
loop-source-preserved c =
    below_more (λ p. (root : ℕ) → (source_at c.args.writing.now p).root ≡ Some root → ⊥) c.loop-source.source-index c.loop-source.invariant
    (λ root e. false≢true (c.if-is_some.ensures ∙ ap is_some e))

pub returns : goal.returns
returns c = λ w. c.loop-source.invariant w.place (omega (arith, w.below, c.loop-source-test.false)) w.root w.is
