use Rattle.std.proofs.Common.{◌≡◌, take, map}
use Rattle.ps_type_text.specs.Members.{fields_of}
use Rattle.ps_scope.specs.ps_typing.Checking.{field_of}
use Rattle.ps_declared.specs.inside.Views.{groups_of}
use Rattle.ps_declared.proofs.declarators.members.Given as goal

-- the members before the place were made
abbrev pub invariant-loop-declarator : goal.invariant-loop-declarator
invariant-loop-declarator l = fields_of l.made.items ≡ map field_of (groups_of (take l.declarator-index l.declarators))
