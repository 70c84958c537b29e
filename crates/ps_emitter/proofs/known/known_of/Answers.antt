use Rattle.std.proofs.Common.{◌∙◌}
use Rattle.ps_emitter.proofs.Chaining.{called_results}
use Rattle.ps_emitter.proofs.known.known_of.Goals as goal

pub returns-in-Here : goal.returns-in-Here
returns-in-Here c = c.results.ensures ∙ called_results c.loop-known.calls _ _ c.in-Here.ensures ∙ c.loop-known.invariant
