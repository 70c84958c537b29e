use Rattle.objects.proofs.LastingLaws.{keeps-lasts}
use Rattle.objects.proofs.KnownLaws.{right-stays}
use Rattle.objects.proofs.objects.Objects.make_table.Goals as goal

pub invariant_of-self : goal.invariant_of-self
invariant_of-self g c =
    right-stays c.self.inside.sw c.table_new.new.sw c.self.inside.known c.self.invariant
    (keeps-lasts c.self.inside.sw c.table_new.new.sw c.table_new.ensures.keeps)
