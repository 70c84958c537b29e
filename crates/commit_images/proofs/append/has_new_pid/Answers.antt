use Rattle.std.proofs.Common.{arith}
use Rattle.std.proofs.lemmas.Bool.Decides.{nat_tests}
use Rattle.commit_images.specs.Images.{is_new}
use Rattle.commit_images.proofs.append.has_new_pid.Goals as goal

pub returns : goal.returns
unfolding is_new
returns c = let e = c.pid.ensures in grind (arith, nat_tests)
