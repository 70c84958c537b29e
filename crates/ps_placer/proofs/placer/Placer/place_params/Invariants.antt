-- the parameters before the place have their places
use Rattle.std.proofs.Common.{◌≡◌, take, drop, length}
use Rattle.ps_program.specs.NodeView.{params_of}
use Rattle.ps_typing.specs.Placing.{Around, Locals}
use Rattle.ps_placer.specs.inside.Standing.{Stands}
use Rattle.ps_placer.specs.inside.Params.{placed_params}
use Rattle.ps_placer.proofs.placer.Placer.place_params.Given as goal

abbrev pub invariant-loop-i : goal.invariant-loop-i
invariant-loop-i l = record {
  same_length : length l.list.items ≡ length l.initial.list.items;
  rest : drop l.i l.list.items ≡ drop l.i l.initial.list.items;
  done : (around : Around) (locals : Locals) → Stands l.self around locals → params_of (take l.i l.list.items) ≡ placed_params around locals (params_of (take l.i l.initial.list.items));
}
