use Rattle.std.proofs.Common.{◌≡◌, take}
use Rattle.ps_base.specs.TyView.{ty_views}
use Rattle.ps_scope.specs.ps_typing.Checking.{types_of}
use Rattle.ps_declared.specs.inside.Views.{groups_of}
use Rattle.ps_declared.proofs.declarators.types.Given as goal

-- the types before the place were made
abbrev pub invariant-loop-declarator : goal.invariant-loop-declarator
invariant-loop-declarator l = ty_views l.made.items ≡ types_of (groups_of (take l.declarator-index l.declarators))
