-- the parameters before the place have their locals
use Rattle.std.proofs.Common.{take}
use Rattle.ps_program.specs.NodeView.{params_of}
use Rattle.ps_typing.specs.Placing.{Around, Locals}
use Rattle.ps_typing.specs.Placed.{with_params}
use Rattle.ps_placer.specs.inside.Standing.{Stands}
use Rattle.ps_placer.proofs.placer.Placer.declare_params.Given as goal

abbrev pub invariant-loop-param : goal.invariant-loop-param
invariant-loop-param l = (around : Around) (locals : Locals) → Stands l.initial.self around locals → Stands l.self around (with_params (params_of (take l.param-index l.params)) locals)
