use Rattle.std.proofs.Common.{◌≡◌, drop}
use Rattle.ps_scope.specs.Content.{names_of}
use Rattle.ps_scope.specs.ps_typing.Checking.{with_fields}
use Rattle.ps_declared.specs.inside.Views.{groups_of}
use Rattle.ps_declared.proofs.classes.declare_fields.Given as goal

-- the fields that are left, after those that were declared, are all
abbrev pub invariant-loop-field : goal.invariant-loop-field
invariant-loop-field l = with_fields (names_of l.scope) l.text.value l.index (groups_of (drop l.field-index l.fields)) ≡ with_fields (names_of l.initial.scope) l.text.value 0 (groups_of l.fields)
