use Rattle.std.proofs.Common.{◌≡◌, arith, below_more}
use Rattle.commit_walk.specs.Homes.{source_at}
use Rattle.reach_commit.proofs.decide.is_writing.Goals as goal

pub loop-source-preserved : goal.loop-source-preserved
loop-source-preserved c = below_more (λ p. (source_at c.args.writing.now p).number ≡ c.args.number → ⊥) c.loop-source.source-index c.loop-source.invariant c.if-source-number.false

pub returns : goal.returns
returns c = λ w. c.loop-source.invariant w.place (omega (arith, w.below, c.loop-source-test.false)) w.is
