use Rattle.std.proofs.Common.{◌≡◌, ◌+◌, ◌-◌, ap, ◌∙◌, sym, arith}
use Rattle.ps_emitter.specs.Chains.{called, type_in}
use Rattle.ps_emitter.specs.inside.Sources.{results}
use Rattle.ps_emitter.proofs.Chaining.{results_more, called_results}
use Rattle.ps_emitter.proofs.known.Known.results.Goals as goal

pub loop-left-preserved : goal.loop-left-preserved
loop-left-preserved c =
    let n = c.loop-left.left - 1 in
    let more : c.loop-left.left ≡ n + 1 = omega (arith, c.loop-left-test.true) in
    let ty = type_in c.loop-left.known in
    called_results n _ _ c.result-known.ensures ∙ ap called (sym (results_more n ty) ∙ ap (λ k. results k ty) (sym more)) ∙ c.loop-left.invariant
