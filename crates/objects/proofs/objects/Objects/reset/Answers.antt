use Rattle.objects.proofs.objects.Objects.reset.Goals as goal

pub invariant_of-self : goal.invariant_of-self
invariant_of-self c = c.clear.ensures c.reset.new.self
