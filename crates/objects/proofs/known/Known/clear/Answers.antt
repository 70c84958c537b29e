use Rattle.objects.proofs.known.Known.clear.Goals as goal

pub returns : goal.returns
returns c = λ here. record { layouts = c.clear.ensures here; fields = c.clear-2.ensures here; vectors = c.clear-3.ensures here; procedures = c.clear-4.ensures here; makes = c.clear-5.ensures here }
