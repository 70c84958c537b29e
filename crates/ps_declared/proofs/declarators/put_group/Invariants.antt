use Rattle.std.proofs.Common.{◌≡◌, ◌++◌, take}
use Rattle.ps_base.specs.TyView.{ty_view}
use Rattle.ps_tree.specs.Phrase.{names_in}
use Rattle.ps_declared.specs.inside.Views.{groups_of}
use Rattle.ps_declared.proofs.declarators.put_group.Given as goal

-- the names before the place were put after the first
abbrev pub invariant-loop-name : goal.invariant-loop-name
invariant-loop-name l = groups_of l.made.items ≡ groups_of l.initial.made.items ++ names_in (ty_view l.ty) (take l.name-index l.name-items)
