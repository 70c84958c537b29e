use Rattle.std.proofs.Common.{◌≡◌, ◌-◌, length}
use Rattle.std.specs.Prelude.{vec_capacity}
use Rattle.machine_commits.proofs.images.grow.Given as goal

abbrev pub invariant-loop-images : goal.invariant-loop-images
invariant-loop-images l = vec_capacity l.images ≡ vec_capacity l.fn.images

abbrev pub decreases-loop-images : goal.decreases-loop-images
decreases-loop-images l = l.words - length l.images.items
