use Rattle.std.proofs.Common.{sym, subst, arith}
use Rattle.ps_program.specs.NodeView.{node_of}
use Rattle.ps_emitter.specs.Chains.{Chained}
use Rattle.ps_emitter.proofs.Chaining.{first_lighter, chained_more}
use Rattle.ps_emitter.proofs.spine.gather.Goals as goal

pub loop-first-smaller : goal.loop-first-smaller
loop-first-smaller c =
    let lighter = first_lighter (node_of c.loop-first.rest.now) (node_of c.in-Some.first.now) (sym c.in-Some.ensures) in omega (arith, lighter)

pub loop-first-preserved : goal.loop-first-preserved
loop-first-preserved c whole chain =
    subst (λ links. Chained whole links (node_of c.in-Some.first.now)) (sym c.in_ok-push.ensures.items)
    (chained_more c.loop-first.links.items c.loop-first.rest (node_of c.in-Some.first.now) whole (c.loop-first.invariant whole chain) (sym c.in-Some.ensures))
