use Rattle.std.proofs.Common.{w32}
use Rattle.std.proofs.lemmas.Int.{to_z-of_z}
use Rattle.objects.proofs.LastingLaws.{keeps-lasts}
use Rattle.objects.proofs.KnownLaws.{right-stays}
use Rattle.objects.proofs.objects.Objects.part.Goals as goal

pub invariant_of-self : goal.invariant_of-self
invariant_of-self g c =
    right-stays c.self.inside.sw c.part.new.sw c.self.inside.known c.self.invariant (keeps-lasts c.self.inside.sw c.part.new.sw c.part.ensures.keeps)

pub returns-clause-made : goal.returns-clause-made
returns-clause-made g c =
    rw (c.self.view_is, to_z-of_z w32 c.args.from c.ranges.from, to_z-of_z w32 c.args.count c.ranges.count) at c.part.ensures.made
