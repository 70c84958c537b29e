use Rattle.std.proofs.Common.{reverse, drop, ap, ◌∙◌}
use Rattle.ps_typing.specs.Names.{is_field_declared}
use Rattle.ps_scope.specs.Content.{Content, names_of}
use Rattle.ps_scope.proofs.Found.{is_field_looked_up}
use Rattle.ps_scope.proofs.scope.Scope.declares_field.Goals as goal

pub returns : goal.returns
returns c =
    c.has_behind.ensures ∙ is_field_looked_up (reverse (drop c.self.inside.fields_around c.self.inside.fields)) c.args.name.now
    ∙ ap (λ (content : Content). is_field_declared (names_of content) c.args.name.now) c.self.view_is
