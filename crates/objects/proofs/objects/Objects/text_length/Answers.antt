use Rattle.objects.proofs.objects.Objects.text_length.Goals as goal

pub returns-clause-value : goal.returns-clause-value
returns-clause-value g c = rw c.self.view_is at c.length.ensures.value
