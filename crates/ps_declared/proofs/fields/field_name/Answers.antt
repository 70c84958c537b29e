use Rattle.std.proofs.Common.{◌∙◌, ap, sym}
use Rattle.ps_tree.specs.PhraseLists.{phrases_in}
use Rattle.ps_scope.specs.ps_typing.Checking.{field_name}
use Rattle.ps_declared.proofs.FieldNames.{several}
use Rattle.ps_declared.proofs.fields.field_name.Goals as goal

pub returns-then-not-is_empty : goal.returns-then-not-is_empty
returns-then-not-is_empty c = sym (ap (λ args. field_name (phrases_in args)) c.in_ok-only.ensures.cases.0 ∙ several c.in_ok-only.only.now c.in_ok-only.rest.now _ c.is_empty.ensures c.if-not-is_empty.true)
