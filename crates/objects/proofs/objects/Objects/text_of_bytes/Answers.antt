use Rattle.objects.proofs.LastingLaws.{keeps-lasts}
use Rattle.objects.proofs.KnownLaws.{right-stays}
use Rattle.objects.proofs.objects.Objects.text_of_bytes.Goals as goal

pub invariant_of-self : goal.invariant_of-self
invariant_of-self g c =
    right-stays c.self.inside.sw c.text_of_bytes.new.sw c.self.inside.known c.self.invariant (keeps-lasts c.self.inside.sw c.text_of_bytes.new.sw c.text_of_bytes.ensures.keeps)
