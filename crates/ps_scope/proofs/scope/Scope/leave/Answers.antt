use Rattle.std.proofs.Common.{◌∙◌, ap, take}
use Rattle.ps_typing.specs.Names.{behind}
use Rattle.ps_scope.specs.Content.{Content, names_of}
use Rattle.ps_scope.proofs.Content.{content_of, left}
use Rattle.ps_scope.proofs.scope.Scope.leave.Goals as goal

pub returns : goal.returns
returns c before names_are fields_are names_at fields_at =
    let names = take c.self.inside.names_around c.self.inside.names in
    let fields = take c.self.inside.fields_around c.self.inside.fields in
    ap (λ xs. names_of (content_of xs c.truncate-2.new.self c.self.inside.locals.items c.args.block.names_around c.args.block.fields_around)) c.truncate.ensures
    ∙ ap (λ xs. names_of (content_of names xs c.self.inside.locals.items c.args.block.names_around c.args.block.fields_around)) c.truncate-2.ensures
    ∙ left names fields c.self.inside.locals.items c.args.block.names_around c.args.block.fields_around before
    (ap (λ (content : Content). (names_of content).around) c.self.view_is ∙ names_are) (ap (λ (content : Content). (names_of content).fields_around) c.self.view_is ∙ fields_are) names_at fields_at
    ∙ ap (λ (content : Content). behind before (names_of content)) c.self.view_is
