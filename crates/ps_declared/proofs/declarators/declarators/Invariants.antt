use Rattle.std.proofs.Common.{◌≡◌, take}
use Rattle.ps_tree.specs.Phrase.{groups_in}
use Rattle.ps_declared.specs.inside.Views.{groups_of}
use Rattle.ps_declared.proofs.declarators.declarators.Given as goal

-- the names of the groups before the place were put
abbrev pub invariant-loop-group : goal.invariant-loop-group
invariant-loop-group l = groups_of l.made.items ≡ groups_in (take l.group-index l.groups)
