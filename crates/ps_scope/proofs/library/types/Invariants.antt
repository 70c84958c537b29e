use Rattle.std.proofs.Common.{◌≡◌, take}
use Rattle.ps_base.specs.TyView.{ty_views}
use Rattle.ps_scope.specs.inside.Declarations.{types_in}
use Rattle.ps_scope.proofs.library.types.Given as goal

-- the types before the place were made
abbrev pub invariant-loop-one : goal.invariant-loop-one
invariant-loop-one l = ty_views l.made.items ≡ types_in (take l.one-index l.simple)
