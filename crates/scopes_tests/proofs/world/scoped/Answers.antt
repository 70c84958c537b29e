use Rattle.scopes.proofs.of_swizzle.MadeLaws.{made-held}
use Rattle.scopes_tests.proofs.world.scoped.Goals as goal

pub returns-in-Ok-clause-held : goal.returns-in-Ok-clause-held
returns-in-Ok-clause-held c = made-held c.args.sw.now c.make_scope.new.sw c.in-Ok.scope _ c.in-Ok.ensures.made
