use Rattle.std.proofs.Common.{arith}
use Rattle.std.proofs.lemmas.Bool.Decides.{nat_tests}
use Rattle.commit_images.specs.Images.{is_changed}
use Rattle.commit_images.proofs.overwrite.is_written_anew.Goals as goal

pub returns-then-pid-eq0 : goal.returns-then-pid-eq0
unfolding is_changed
returns-then-pid-eq0 c = let e = c.pid-pid.ensures in grind (arith, nat_tests)

pub returns-then-pid-first : goal.returns-then-pid-first
unfolding is_changed
returns-then-pid-first c = let e = c.pid-pid.ensures in grind (arith, nat_tests)

pub returns-then-is_homed : goal.returns-then-is_homed
unfolding is_changed
returns-then-is_homed c = let e = c.pid-pid.ensures in let h = c.is_homed.ensures in grind (arith, nat_tests)

pub returns : goal.returns
unfolding is_changed
returns c = let e = c.pid-pid.ensures in let h = c.is_homed.ensures in let n = c.is_reached_node.ensures in grind (arith, nat_tests)
