use Rattle.std.proofs.Common.{◌≡◌, take}
use Rattle.ps_base.specs.TyView.{ty_views}
use Rattle.ps_program.specs.NodeView.{params_of}
use Rattle.ps_typing.specs.WellTyped.{types_of_params}
use Rattle.ps_emitter.proofs.signature.types_of.Given as goal

abbrev pub invariant-loop-param : goal.invariant-loop-param
invariant-loop-param l = ty_views l.made.items ≡ types_of_params (params_of (take l.param-index l.params))
