use Rattle.std.proofs.Common.{w32}
use Rattle.std.proofs.lemmas.Int.{to_z-of_z}
use Rattle.objects.proofs.LastingLaws.{keeps-lasts}
use Rattle.objects.proofs.KnownLaws.{right-stays}
use Rattle.objects.proofs.objects.Objects.make_vector.Goals as goal

pub invariant_of-self : goal.invariant_of-self
invariant_of-self g c =
    right-stays c.self.inside.sw c.make_vector.new.sw c.self.inside.known c.self.invariant (keeps-lasts c.self.inside.sw c.make_vector.new.sw c.make_vector.ensures.keeps)

pub returns-clause-made : goal.returns-clause-made
returns-clause-made g c =
    rw (c.self.view_is, to_z-of_z w32 c.args.low c.ranges.low, to_z-of_z w32 c.args.high c.ranges.high) at c.make_vector.ensures.made
