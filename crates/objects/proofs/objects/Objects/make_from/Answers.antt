use Rattle.objects.proofs.LastingLaws.{keeps-lasts}
use Rattle.objects.proofs.KnownLaws.{right-stays}
use Rattle.objects.proofs.objects.Objects.make_from.Goals as goal

pub invariant_of-self : goal.invariant_of-self
invariant_of-self g c =
    right-stays c.self.inside.sw c.make_of_rows.new.sw c.self.inside.known c.self.invariant (keeps-lasts c.self.inside.sw c.make_of_rows.new.sw c.make_of_rows.ensures.keeps)
