use Rattle.std.proofs.Common.{◌≡◌, [], drop}
use Rattle.ps_program.specs.NodeView.{params_of}
use Rattle.ps_declared.specs.ps_scope.Content.{names_of}
use Rattle.ps_declared.specs.ps_typing.Checking.{with_params}
use Rattle.ps_declared.specs.inside.Views.{groups_of}
use Rattle.ps_checked.proofs.literals.parameters.Given as goal

-- the parameters that are left, after those that were made, are all
abbrev pub invariant-loop-param : goal.invariant-loop-param
invariant-loop-param l = with_params (names_of l.scope) (params_of l.made.items) (groups_of (drop l.param-index l.params)) ≡ with_params (names_of l.initial.scope) [] (groups_of l.params)
