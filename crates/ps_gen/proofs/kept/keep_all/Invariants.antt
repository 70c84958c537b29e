use Rattle.std.proofs.Common.{◌≡◌, ◌+◌, true, false, drop}
use Rattle.ps_program.specs.NodeView.{params_of}
use Rattle.ps_emitter.specs.ps_typing.Locals.{taken_by_params}
use Rattle.ps_emitter.specs.Pieces.{state_of, Left}
use Rattle.ps_gen.specs.inside.Clauses.{keeping}
use Rattle.ps_gen.proofs.kept.keep_all.Given as goal

abbrev pub invariant-loop-param : goal.invariant-loop-param
invariant-loop-param l = record {
  left : Left (keeping (params_of (drop l.param-index l.params)) l.nums l.refs) (keeping (params_of l.params) 0 0) (state_of l.fn.emitter) (state_of l.emitter);
  nums : l.nums + taken_by_params true (params_of (drop l.param-index l.params)) ≡ taken_by_params true (params_of l.params);
  refs : l.refs + taken_by_params false (params_of (drop l.param-index l.params)) ≡ taken_by_params false (params_of l.params);
}
