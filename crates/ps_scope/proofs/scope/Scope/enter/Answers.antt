use Rattle.std.proofs.Common.{◌≡◌, ◌∙◌, ap, length, rules}
use Rattle.ps_typing.specs.Names.{inside}
use Rattle.ps_scope.specs.Content.{Content, names_of}
use Rattle.ps_scope.proofs.Content.{entered}
use Rattle.ps_scope.proofs.scope.Scope.enter.Goals as goal

pub returns-clause-names : goal.returns-clause-names
returns-clause-names c =
    let names : c.len-self-inside.result ≡ length c.self.inside.names = search rules in
    let fields : c.len-self-inside-2.result ≡ length c.self.inside.fields = search rules in
    entered c.self.inside.names c.self.inside.fields c.self.inside.locals.items c.self.inside.names_around c.self.inside.fields_around _ _ names fields
    ∙ ap (λ (content : Content). inside (names_of content)) c.self.view_is
