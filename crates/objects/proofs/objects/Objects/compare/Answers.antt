use Rattle.objects.proofs.objects.Objects.compare.Goals as goal

pub returns : goal.returns
returns g c = rw c.self.view_is at c.compare.ensures
