use Rattle.std.proofs.Common.{sym, ◌∙◌}
use Rattle.std.proofs.lemmas.Bool.{true≢false}
use Rattle.commit_walk.specs.Walk.{Goes, May, IsAt}
use Rattle.commit_walk.proofs.SteadyLaws.{lists-as, lists-none}
use Rattle.commit_walk.proofs.walk.reach_one.Goals as goal

pub returns-then-is_at : goal.returns-then-is_at
returns-then-is_at c =
    let now = c.args.sw.now in
    let x = c.args.object in
    let at = c.is_at.ensures.is c.if-is_at.true in
    lists-as now c.reach_refs.new.sw (λ y. Goes now x y × May now y) (λ y. IsAt now c.args.number x × Goes now x y × May now y) c.reach_refs.ensures (λ y p. (at, p.0, p.1)) (λ y q. (q.1, q.2))

pub returns-else-is_at : goal.returns-else-is_at
returns-else-is_at c =
    let now = c.args.sw.now in
    let x = c.args.object in
    lists-none now (λ y. IsAt now c.args.number x × Goes now x y × May now y) (λ y q. true≢false (sym (c.is_at.ensures.all q.0) ∙ c.if-is_at.false))
