use Rattle.std.proofs.Common.{◌∙◌}
use Rattle.scopes_tests.proofs.world.World.new.Goals as goal

pub returns-in-Ok-scoped : goal.returns-in-Ok-scoped
returns-in-Ok-scoped c =
    let text = c.in_ok-sw.ensures in
    let s = c.in-Ok-scoped.ensures.stands c.in_ok-sw.field-0.text text.held in
    record { text = record { held = s.held; kind = s.kind ∙ text.kind }; scope = c.in-Ok-scoped.ensures.held; so = c.in-Ok.ensures c.scoped.new.sw }
