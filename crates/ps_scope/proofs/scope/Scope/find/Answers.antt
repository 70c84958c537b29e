use Rattle.std.proofs.Common.{option_map, reverse, sym, ap, ◌∙◌}
use Rattle.ps_typing.specs.Names.{lookup, meant}
use Rattle.ps_scope.specs.Content.{Content, declared_of, names_of}
use Rattle.ps_scope.specs.Views.{meaning_of}
use Rattle.ps_scope.proofs.Content.{halves_reversed}
use Rattle.ps_scope.proofs.Found.{looked_up}
use Rattle.ps_scope.specs.declared.declaration.Declaration.{Declaration}
use Rattle.ps_scope.proofs.scope.Scope.find.Goals as goal

pub returns-in-Some : goal.returns-in-Some
returns-in-Some c =
    ap (option_map (λ (d : Declaration). meaning_of d.meaning)) c.in-Some.ensures ∙ looked_up (reverse c.self.inside.names) c.args.name.now
    ∙ ap (λ xs. lookup xs c.args.name.now) (sym (halves_reversed declared_of c.self.inside.names_around c.self.inside.names))
    ∙ ap (λ (content : Content). meant (names_of content) c.args.name.now) c.self.view_is

pub returns-in-None : goal.returns-in-None
returns-in-None c =
    ap (option_map (λ (d : Declaration). meaning_of d.meaning)) c.in-None.ensures ∙ looked_up (reverse c.self.inside.names) c.args.name.now
    ∙ ap (λ xs. lookup xs c.args.name.now) (sym (halves_reversed declared_of c.self.inside.names_around c.self.inside.names))
    ∙ ap (λ (content : Content). meant (names_of content) c.args.name.now) c.self.view_is
