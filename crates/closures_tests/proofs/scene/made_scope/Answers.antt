use Rattle.closures.proofs.of_swizzle.MadeLaws.{made-held}
use Rattle.closures_tests.proofs.scene.made_scope.Goals as goal

pub returns-in-Ok-clause-scope : goal.returns-in-Ok-clause-scope
returns-in-Ok-clause-scope c = made-held c.args.sw.now c.make.new.self c.in-Ok.scope _ c.in-Ok.ensures.made
