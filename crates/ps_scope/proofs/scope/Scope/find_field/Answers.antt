use Rattle.std.proofs.Common.{option_map, reverse, sym, ap, ◌∙◌}
use Rattle.ps_typing.specs.Names.{lookup_field, field_meant}
use Rattle.ps_scope.specs.Content.{Content, names_of}
use Rattle.ps_scope.specs.Views.{field_of}
use Rattle.ps_scope.proofs.Content.{halves_reversed}
use Rattle.ps_scope.proofs.Found.{field_looked_up, behind_loans}
use Rattle.ps_scope.proofs.scope.Scope.find_field.Goals as goal

pub returns : goal.returns
returns c =
    behind_loans c.find.result ∙ ap (option_map field_of) c.find.ensures ∙ field_looked_up (reverse c.self.inside.fields) c.args.name.now
    ∙ ap (λ xs. lookup_field xs c.args.name.now) (sym (halves_reversed field_of c.self.inside.fields_around c.self.inside.fields))
    ∙ ap (λ (content : Content). field_meant (names_of content) c.args.name.now) c.self.view_is
