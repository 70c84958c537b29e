use Rattle.objects.proofs.LastingLaws.{keeps-lasts}
use Rattle.objects.proofs.KnownLaws.{right-stays}
use Rattle.objects.proofs.objects.Objects.int_text.Goals as goal

pub invariant_of-self : goal.invariant_of-self
invariant_of-self g c =
    right-stays c.self.inside.sw c.int_text.new.sw c.self.inside.known c.self.invariant (keeps-lasts c.self.inside.sw c.int_text.new.sw c.int_text.ensures.keeps)
