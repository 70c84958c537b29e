use Rattle.std.proofs.Common.{◌≡◌, ◌+◌, drop}
use Rattle.ps_base.specs.TyView.{ty_views}
use Rattle.ps_emitter.specs.Choices.{references}
use Rattle.ps_emitter.proofs.known.references_of.Given as goal

abbrev pub invariant-loop-ty : goal.invariant-loop-ty
invariant-loop-ty l = l.count + references (ty_views (drop l.ty-index l.types)) ≡ references (ty_views l.types)
