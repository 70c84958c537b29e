use Rattle.closures.proofs.of_swizzle.MadeLaws.{made-held}
use Rattle.closures_tests.proofs.scene.made_closure.Goals as goal

pub returns-in-Ok : goal.returns-in-Ok
returns-in-Ok c = made-held c.args.sw.now c.make_closure.new.sw c.in-Ok.closure _ c.in-Ok.ensures.made
