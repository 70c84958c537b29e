use Rattle.std.proofs.Common.{◌≡◌, ◌+◌, drop}
use Rattle.ps_program.specs.NodeView.{params_of}
use Rattle.ps_typing.specs.WellTyped.{types_of_params}
use Rattle.ps_emitter.specs.Choices.{references}
use Rattle.ps_emitter.proofs.known.references_of_params.Given as goal

abbrev pub invariant-loop-param : goal.invariant-loop-param
invariant-loop-param l = l.count + references (types_of_params (params_of (drop l.param-index l.params))) ≡ references (types_of_params (params_of l.params))
