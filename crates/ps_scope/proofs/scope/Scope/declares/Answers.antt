use Rattle.std.proofs.Common.{reverse, drop, ap, ◌∙◌}
use Rattle.ps_typing.specs.Names.{is_declared}
use Rattle.ps_scope.specs.Content.{Content, names_of}
use Rattle.ps_scope.proofs.Found.{is_looked_up}
use Rattle.ps_scope.proofs.scope.Scope.declares.Goals as goal

pub returns : goal.returns
returns c =
    c.has_behind.ensures ∙ is_looked_up (reverse (drop c.self.inside.names_around c.self.inside.names)) c.args.name.now
    ∙ ap (λ (content : Content). is_declared (names_of content) c.args.name.now) c.self.view_is
